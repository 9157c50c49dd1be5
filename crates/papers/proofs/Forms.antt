-- Reading answers a kind and numbers exactly where the bytes are the paper of them. Assumes nothing.
use Rattle.std.proofs.Common.{◌≡◌, ℕ, ◌+◌, ◌-◌, ◌*◌, ◌/◌, ◌%◌, ◌<◌, ◌≤◌, Bool, true, false, eqb, ◌⊎◌, ◌↔◌, List, length, get_or, Ok, sym, refl, ap, ◌∙◌, subst, ap₂, inl, inr, arith, lit<}
use Rattle.std.proofs.lemmas.List.FromFn.{fill_by_all, get_or-map-range_with_len}
use Rattle.std.proofs.lemmas.List.{get_or_past}
use Rattle.std.proofs.lemmas.Bool.{cases_lt, cases_eq, eq-eqb, ne_eqb, eqb-false}
use Rattle.papers.proofs.Fields.{byte_at, number_in, kind_of_first, kind_again, number_of_kind, length_part, get_d_part}
use Rattle.papers.proofs.Lengths.{last_count, length_numbers}
use Rattle.papers.proofs.Order.{passed, answer_of}
use Rattle.papers.proofs.PaperTests.{PassesAt, paper_exactly}
use Rattle.papers.proofs.Sound.{passes_from_due}
use Rattle.papers.specs.Block.{kind_of, kind_byte, count_byte, block_number}
use Rattle.papers.specs.Bytes.{word}
use Rattle.papers.specs.First.{answered}
use Rattle.papers.specs.Form.{IsBlock, IsPaper, WholeBlocks, KindFits, CountFits, kind_number, part}
use Rattle.papers.specs.Paper.{Contents, blocks, block_at, due_kind, paper_verdict, paper_count, number_at, numbers, contents_of}
use Rattle.papers.specs.declared.kind.Kind.{Kind}

abbrev saying : Kind → List ℕ → Contents
saying k ns = record { kind = k; numbers = ns }

-- a count that fits the last block, or one of the others
pub count_fitting : (last : Bool) (n : ℕ) → (last ≡ true → (1 ≤ n) × (n ≤ 126)) → (last ≡ false → n ≡ 126) → CountFits last n
count_fitting true n at_last at_other = at_last refl
count_fitting false n at_last at_other = at_other refl

-- a paper passes its tests
module _ (bs : List ℕ) (kind : Kind) (xs : List ℕ) (is : IsPaper bs kind xs) where
  first_kind : kind_byte bs ≡ kind_number kind
  first_kind = sym (kind_of_first bs) ∙ (is.each 0 is.whole.some).marked

  due_fits : (b : ℕ) → (due_kind bs b ≡ 0) ⊎ (kind_number kind ≡ due_kind bs b)
  due_fits b =
      elim (cases_eq b 0) [
        | inl none ↦ inl (rw (eq-eqb b 0 none))
        | inr more ↦ inr (rw (ne_eqb b 0 more) (sym first_kind))
      ]

  count_due : (b : ℕ) → b < blocks bs → CountFits (eqb (b + 1) (blocks bs)) (length (part xs b))
  count_due b h =
      let block = is.each b h in
      count_fitting _ _ (λ e. (omega arith, omega arith))
      (λ e. let other = eqb-false (b + 1) (blocks bs) e in omega (arith, length_part xs b))

  passes_at : (b : ℕ) → b < blocks bs → PassesAt bs b
  passes_at b h =
      passes_from_due _ _ _ _ kind (part xs b) (record { block = is.each b h; kind_due = due_fits b; count_due = count_due b h })

  count_all : length xs ≡ paper_count bs
  count_all =
      let b : ℕ = blocks bs - 1 in
      let inside : b < blocks bs = omega arith in
      let block = is.each b inside in
      let here = byte_at bs b 3 (512 * b + 3) (lit< tt) refl in
      omega (arith, length_part xs b)

  number_here : (i : ℕ) → i < length xs → get_or xs i 0 ≡ number_at bs i
  number_here i h =
      let b : ℕ = i / 126 in
      let r : ℕ = i % 126 in
      let inside : b < blocks bs = omega arith in
      let small : r < 126 = omega arith in
      let at : i ≡ 126 * b + r = omega arith in
      ap (λ j. get_or xs j 0) at ∙ sym (get_d_part xs b r small) ∙ sym ((is.each b inside).each r small) ∙ number_in bs b r small

  numbers_all : xs ≡ numbers bs (paper_count bs)
  numbers_all = fill_by_all (number_at bs) xs (paper_count bs) 0 count_all (λ i h. number_here i (omega (arith, count_all)))

  pub paper_reads : contents_of bs ≡ Ok (record { kind = kind; numbers = xs })
  paper_reads =
      let pass = (paper_exactly bs).1 (is.whole, passes_at) in
      let same : kind_of (kind_byte bs) ≡ kind = ap kind_of first_kind ∙ kind_again kind in
      ap (λ v. answered v (saying (kind_of (kind_byte bs)) (numbers bs (paper_count bs)))) pass ∙ ap₂ (λ k ns. Ok (saying k ns)) same (sym numbers_all)

-- which block it is, with what its count is
pub count_cases : (b n c : ℕ) → CountFits (eqb (b + 1) n) c → ((b + 1 ≡ n) × (1 ≤ c) × (c ≤ 126)) ⊎ ((b + 1 ≡ n → ⊥) × (c ≡ 126))
count_cases b n c fits =
    elim (cases_eq (b + 1) n) [
      | inl last ↦ let h : CountFits true c = rw (eq-eqb (b + 1) n last) at fits in inl (last, h.0, h.1)
      | inr other ↦ inr (other, rw (ne_eqb (b + 1) n other) at fits)
    ]

-- bytes that pass the tests are the paper of what they say
module _ (bs : List ℕ) (whole : WholeBlocks bs) (pass : (b : ℕ) → b < blocks bs → PassesAt bs b) where
  first_fits : KindFits 0 (kind_byte bs)
  first_fits = subst (KindFits 0) (kind_of_first bs) (pass 0 whole.some).kind_fits

  same_kind : (b : ℕ) → b < blocks bs → kind_byte (block_at bs b) ≡ kind_byte bs
  same_kind b h =
      elim (cases_eq b 0) [
        | inl none ↦ ap (λ k. kind_byte (block_at bs k)) none ∙ kind_of_first bs
        | inr more ↦
            let due : (kind_byte bs ≡ 0) ⊎ (kind_byte (block_at bs b) ≡ kind_byte bs) = rw (ne_eqb b 0 more) at (pass b h).kind_fits.2 in
            elim due [ inl none ↦ absurd (omega (arith, first_fits.0)) | inr same ↦ same ]
      ]

  module _ (xs : List ℕ) (size : length xs ≡ paper_count bs) (is : (i : ℕ) → i < length xs → get_or xs i 0 ≡ number_at bs i) where
    count_part : (b : ℕ) → b < blocks bs → count_byte (block_at bs b) ≡ length (part xs b)
    count_part b h =
        let last = last_count bs whole pass in
        let part-size = length_part xs b in
        elim (count_cases b (blocks bs) (count_byte (block_at bs b)) (pass b h).count_fits) [
          | inl at_last ↦ omega (arith, byte_at bs b 3 (512 * (blocks bs - 1) + 3) (lit< tt) (omega arith))
          | inr other ↦ omega arith
        ]

    number_part : (b : ℕ) → b < blocks bs → (i : ℕ) → i < 126 → block_number (block_at bs b) i ≡ get_or (part xs b) i 0
    number_part b h i small =
        elim (cases_lt (126 * b + i) (length xs)) [
          | inl inside ↦
              let at : 512 * b + 4 + 4 * i ≡ 512 * ((126 * b + i) / 126) + 4 + 4 * ((126 * b + i) % 126) = omega arith in
              number_in bs b i small ∙ ap (word bs) at ∙ sym (is (126 * b + i) inside) ∙ sym (get_d_part xs b i small)
          | inr past ↦
              let count = count_part b h in
              let part-size = length_part xs b in
              (pass b h).padded i small (omega arith) ∙ sym (get_or_past (part xs b) i 0 (omega arith))
        ]

    block_is : (b : ℕ) → b < blocks bs → IsBlock (block_at bs b) b (kind_of (kind_byte bs)) (part xs b)
    block_is b h =
        let passes = pass b h in
        let count = count_part b h in
        record {
          size = passes.size;
          at = passes.at;
          marked = same_kind b h ∙ sym (number_of_kind (kind_byte bs) first_fits.0 first_fits.1);
          counted = count;
          some = omega (arith, count_cases b (blocks bs) _ passes.count_fits);
          most = omega (arith, count_cases b (blocks bs) _ passes.count_fits);
          each = number_part b h;
          checked = passes.checked;
        }

    paper_is : IsPaper bs (kind_of (kind_byte bs)) xs
    paper_is =
        let last = last_count bs whole pass in
        record { whole = whole; each = block_is; reach = omega arith; within = omega arith }

-- the numbers that were read stand in the bytes
number_read : (bs xs : List ℕ) → xs ≡ numbers bs (paper_count bs) → length xs ≡ paper_count bs → (i : ℕ) → i < length xs → get_or xs i 0 ≡ number_at bs i
number_read bs xs same size i h =
    ap (λ ns. get_or ns i 0) same ∙ get_or-map-range_with_len (number_at bs) 0 (paper_count bs) i i 0 (omega arith) (omega arith)

read_paper : (bs : List ℕ) (kind : Kind) (xs : List ℕ) → contents_of bs ≡ Ok (saying kind xs) → IsPaper bs kind xs
read_paper bs kind xs e =
    let pass = (paper_exactly bs).0 (passed _ _ _ (sym e)) in
    let same = answer_of (paper_verdict bs) _ (saying kind xs) (sym e) in
    let size = length_numbers bs (saying kind xs) e in
    subst (λ k. IsPaper bs k xs) (sym (ap (λ (c : Contents). c.kind) same))
    (paper_is bs pass.0 pass.1 xs size (number_read bs xs (ap (λ (c : Contents). c.numbers) same) size))

pub reads_exactly : (bs : List ℕ) (kind : Kind) (xs : List ℕ) → (contents_of bs ≡ Ok (record { kind = kind; numbers = xs })) ↔ IsPaper bs kind xs
reads_exactly bs kind xs = (read_paper bs kind xs, paper_reads bs kind xs)
