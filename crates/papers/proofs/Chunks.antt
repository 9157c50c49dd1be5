-- Bytes cut into chunks, and the blocks that these are. Assumes nothing.
use Rattle.std.proofs.Common.{◌≡◌, ℕ, zero, suc, ◌+◌, ◌*◌, ◌/◌, ◌%◌, ◌<◌, List, ◌∷◌, length, get_or, take, drop, sym, refl, ap, ◌∙◌, add-one, arith}
use Rattle.std.proofs.lemmas.List.{drop-drop}
use Rattle.std.specs.Simd.{first_chunks}
use Rattle.papers.proofs.Fields.{number_in}
use Rattle.papers.specs.Block.{block_number}
use Rattle.papers.specs.Blocks.{blocks}
use Rattle.papers.specs.Form.{AreBlocks, WholeBlocks}
use Rattle.papers.specs.Paper.{number_at}

pub chunk_at : (n k b : ℕ) (xs d : List ℕ) → b < k → get_or (first_chunks n k xs) b d ≡ take n (drop (n * b) xs)
chunk_at n zero b xs d h = absurd (omega arith)
chunk_at n (suc k) zero xs d h = let none : n * 0 ≡ 0 = omega arith in rw none refl
chunk_at n (suc k) (suc b) xs d h =
    let skip : n * suc b ≡ n + n * b = omega arith in
    chunk_at n k b (drop n xs) d (omega arith) ∙ ap (take n) (drop-drop (n * b) n xs ∙ ap (λ j. drop j xs) (sym skip))

pub are_blocks : (bs start : List ℕ) (others chunks : List (List ℕ)) → WholeBlocks bs → chunks ≡ first_chunks 512 (blocks bs) bs → length chunks ≡ blocks bs → chunks ≡ start ∷ others → AreBlocks bs start others
are_blocks bs start others chunks whole cut many split =
    let size : length others + 1 ≡ blocks bs = add-one (length others) ∙ sym (ap length split) ∙ many in
    record {
      whole = whole;
      first = ap (λ cs. get_or cs 0 start) (sym split ∙ cut) ∙ chunk_at 512 (blocks bs) 0 bs start (omega (arith, size));
      each = λ b d h.
          ap (λ j. get_or (start ∷ others) j d) (sym (add-one b)) ∙ ap (λ cs. get_or cs (b + 1) d) (sym split ∙ cut) ∙ chunk_at 512 (blocks bs) (b + 1) bs d (omega (arith, size));
      many = size;
    }

-- the number at a place of the bytes stands in the block that its place is in
pub number_in_chunk : (bs d : List ℕ) (chunks : List (List ℕ)) (i : ℕ) → chunks ≡ first_chunks 512 (blocks bs) bs → i / 126 < blocks bs → block_number (get_or chunks (i / 126) d) (i % 126) ≡ number_at bs i
number_in_chunk bs d chunks i cut h =
    ap (λ x. block_number x (i % 126)) (ap (λ cs. get_or cs (i / 126) d) cut ∙ chunk_at 512 (blocks bs) (i / 126) bs d h) ∙ number_in bs (i / 126) (i % 126) (omega arith)
