-- A block passes its tests exactly where it is the due block of some kind and numbers. Assumes nothing.
use Rattle.std.proofs.Common.{◌≡◌, ℕ, ◌<◌, ◌≤◌, Bool, true, false, ◌⊎◌, ◌↔◌, List, map, get_or, Ok, sym, ap, ◌∙◌, subst, ap₂, inl, inr, arith}
use Rattle.std.proofs.lemmas.List.FromFn.{length-map-range_with_len, get_or-map-range_with_len}
use Rattle.std.proofs.lemmas.List.{get_or_past}
use Rattle.std.proofs.lemmas.Bool.{cases_lt}
use Rattle.std.specs.List.{range_with_len}
use Rattle.papers.proofs.BlockTests.{Passes, passes_exactly}
use Rattle.papers.proofs.Fields.{kind_small, kind_again, number_of_kind}
use Rattle.papers.proofs.Order.{passed, answer_of}
use Rattle.papers.specs.Block.{block_verdict, block_of, kind_of, kind_byte, count_byte, block_number}
use Rattle.papers.specs.First.{answered}
use Rattle.papers.specs.Form.{IsDueBlock, CountFits, KindFits, BlockLaw, kind_number}
use Rattle.papers.specs.declared.block.Block.{Block}
use Rattle.papers.specs.declared.kind.Kind.{Kind}

pub count_range : (last : Bool) (n : ℕ) → CountFits last n → (1 ≤ n) × (n ≤ 126)
count_range true n fits = fits
count_range false n fits = (omega arith, omega arith)

-- the numbers up to the count
abbrev held_numbers : List ℕ → List ℕ
held_numbers bs = map (block_number bs) (range_with_len 0 (count_byte bs))

abbrev found : Kind → ℕ → Block
found kind count = record { kind = kind; count = count }

module _ (bs : List ℕ) (place due : ℕ) (last : Bool) where
  held_at : Passes bs place due last → (i : ℕ) → i < 126 → block_number bs i ≡ get_or (held_numbers bs) i 0
  held_at p i h =
      let size = length-map-range_with_len (block_number bs) 0 (count_byte bs) in
      elim (cases_lt i (count_byte bs)) [
        | inl inside ↦ sym (get_or-map-range_with_len (block_number bs) 0 (count_byte bs) i i 0 inside (omega arith))
        | inr past ↦ p.padded i h past ∙ sym (get_or_past (held_numbers bs) i 0 (omega arith))
      ]

  pub due_from_passes : Passes bs place due last → IsDueBlock bs place due last (kind_of (kind_byte bs)) (held_numbers bs)
  due_from_passes p =
      let size = length-map-range_with_len (block_number bs) 0 (count_byte bs) in
      let number = number_of_kind (kind_byte bs) p.kind_fits.0 p.kind_fits.1 in
      let range = count_range last (count_byte bs) p.count_fits in
      record {
        block = record { size = p.size; at = p.at; marked = sym number; counted = sym size; some = omega arith; most = omega arith; each = held_at p; checked = p.checked };
        kind_due = subst (λ k. (due ≡ 0) ⊎ (k ≡ due)) (sym number) p.kind_fits.2;
        count_due = subst (CountFits last) (sym size) p.count_fits;
      }

  pub block_from_passes : Passes bs place due last → (b : Block) → kind_number b.kind ≡ kind_byte bs → b.count ≡ count_byte bs → BlockLaw bs place due last (Ok b)
  block_from_passes p b marked counted =
      let is = due_from_passes p in
      let same : kind_of (kind_byte bs) ≡ b.kind = sym (ap kind_of marked) ∙ kind_again b.kind in
      (held_numbers bs, subst (λ k. IsDueBlock bs place due last k (held_numbers bs)) same is, counted ∙ is.block.counted)

  pub passes_from_due : (kind : Kind) (xs : List ℕ) → IsDueBlock bs place due last kind xs → Passes bs place due last
  passes_from_due kind xs is =
      let block = is.block in
      let small = kind_small kind in
      record {
        size = block.size;
        checked = block.checked;
        at = block.at;
        kind_fits = subst (KindFits due) (sym block.marked) (small.0, small.1, is.kind_due);
        count_fits = subst (CountFits last) (sym block.counted) is.count_due;
        padded = λ i h past. block.each i h ∙ get_or_past xs i 0 (omega arith);
      }

  passes_read : block_verdict bs place due last ≡ Ok tt → (b : Block) → kind_of (kind_byte bs) ≡ b.kind → count_byte bs ≡ b.count → block_of bs place due last ≡ Ok b
  passes_read e b same_kind same_count =
      ap (λ v. answered v (found (kind_of (kind_byte bs)) (count_byte bs))) e ∙ ap₂ (λ k n. Ok (found k n)) same_kind same_count

  -- the block reader answers a kind and a count exactly where the bytes are the due block of such numbers
  pub block_reads_exactly : (b : Block) → (block_of bs place due last ≡ Ok b) ↔ BlockLaw bs place due last (Ok b)
  block_reads_exactly b = (
    λ e.
        let is = due_from_passes ((passes_exactly bs place due last).0 (passed _ _ _ (sym e))) in
        let same = answer_of (block_verdict bs place due last) _ b (sym e) in (
          held_numbers bs,
          subst (λ k. IsDueBlock bs place due last k (held_numbers bs)) (sym (ap (λ (c : Block). c.kind) same)) is,
          ap (λ (c : Block). c.count) same ∙ is.block.counted,
        ),
    λ is.
        let block = is.1.block in
        passes_read ((passes_exactly bs place due last).1 (passes_from_due b.kind is.0 is.1)) b (ap kind_of block.marked ∙ kind_again b.kind) (block.counted ∙ sym is.2),
  )
