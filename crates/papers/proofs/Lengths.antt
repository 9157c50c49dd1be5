-- How many numbers a paper holds. Assumes nothing.
use Rattle.std.proofs.Common.{◌≡◌, ℕ, ◌+◌, ◌-◌, ◌*◌, ◌<◌, ◌≤◌, true, eqb, List, length, get_or, Ok, sym, refl, ap, ◌∙◌, arith, lit<}
use Rattle.std.proofs.lemmas.List.FromFn.{length-map-range_with_len}
use Rattle.std.proofs.lemmas.Bool.{eq-eqb}
use Rattle.papers.proofs.Fields.{byte_at}
use Rattle.papers.proofs.Order.{passed, answer_of}
use Rattle.papers.proofs.PaperTests.{PassesAt, paper_exactly}
use Rattle.papers.specs.Block.{count_byte}
use Rattle.papers.specs.Form.{WholeBlocks, CountFits}
use Rattle.papers.specs.Paper.{Contents, blocks, block_at, paper_verdict, paper_count, number_at, contents_of}

-- the last block holds 1 to 126 numbers
pub last_count : (bs : List ℕ) → WholeBlocks bs → ((b : ℕ) → b < blocks bs → PassesAt bs b) → (1 ≤ get_or bs (512 * (blocks bs - 1) + 3) 0) × (get_or bs (512 * (blocks bs - 1) + 3) 0 ≤ 126)
last_count bs whole each =
    let b : ℕ = blocks bs - 1 in
    let last : eqb (b + 1) (blocks bs) ≡ true = eq-eqb _ _ (omega arith) in
    let fits : CountFits true (count_byte (block_at bs b)) = rw last at (each b (omega arith)).count_fits in
    rw (byte_at bs b 3 (512 * b + 3) (lit< tt) refl) at fits

pub length_numbers : (bs : List ℕ) (c : Contents) → contents_of bs ≡ Ok c → length c.numbers ≡ paper_count bs
length_numbers bs c e =
    ap (λ (d : Contents). length d.numbers) (answer_of (paper_verdict bs) _ c (sym e)) ∙ length-map-range_with_len (number_at bs) 0 (paper_count bs)

pub some_numbers : (bs : List ℕ) (c : Contents) → contents_of bs ≡ Ok c → (1 ≤ length c.numbers) × (length c.numbers ≤ 8064)
some_numbers bs c e =
    let p = (paper_exactly bs).0 (passed _ _ _ (sym e)) in
    let last = last_count bs p.0 p.1 in
    let same = length_numbers bs c e in
    (omega arith, omega arith)
