-- What the blocks that were read so far say of their paper. Assumes nothing.
use Rattle.std.proofs.Common.{◌≡◌, ℕ, ◌+◌, ◌-◌, ◌*◌, ◌<◌, ◌≤◌, Bool, false, eqb, ◌⊎◌, ◌↔◌, List, [], ◌∷◌, length, Ok, Err, Result, sym, refl, ap, ◌∙◌, subst, ap₂, inl, inr, arith, lit<}
use Rattle.std.proofs.lemmas.Bool.{cases_eq, eq-eqb, ne_eqb}
use Rattle.papers.proofs.Fields.{byte_at, kind_of_first, kind_again}
use Rattle.papers.proofs.Numbering.{Numbered, none_passed, inside, here, more_passed, all_passed}
use Rattle.papers.proofs.PaperTests.{paper_exactly}
use Rattle.papers.proofs.Sound.{passes_from_due}
use Rattle.papers.specs.Block.{kind_byte, count_byte, kind_of}
use Rattle.papers.specs.First.{answered}
use Rattle.papers.specs.Form.{AreBlocks, BlockLaw, CountFits, PaperFaultLaw, SoundAt, WholeBlocks, kind_number}
use Rattle.papers.specs.Paper.{Contents, blocks, block_at, contents_of, due_kind, numbers, paper_count}
use Rattle.papers.specs.declared.block.Block.{Block}
use Rattle.papers.specs.declared.fault.BlockFault.{BlockFault}
use Rattle.papers.specs.declared.fault.PaperFault.TheVariants as paper
use Rattle.papers.specs.declared.kind.Kind.{Kind}

-- two tests of the same
same_test : (a b c d : ℕ) → (a ≡ b) ↔ (c ≡ d) → eqb a b ≡ eqb c d
same_test a b c d same =
    elim (cases_eq a b) [
      | inl is ↦ rw (eq-eqb a b is, eq-eqb c d (same.0 is)) refl
      | inr other ↦ rw (ne_eqb a b other, ne_eqb c d (λ is. other (same.1 is))) refl
    ]

-- blocks 0 to b are sound, and hold so many numbers
pub record AreRead (bs : List ℕ) (b count : ℕ) : Type 0 where
  pub sound : (j : ℕ) → j < b + 1 → SoundAt bs j
  pub counted : count ≡ 126 * b + count_byte (block_at bs b)

module _ (bs : List ℕ) where
  -- a block in front of others is full, and none holds more
  full : (b : ℕ) → b + 1 < blocks bs → SoundAt bs b → count_byte (block_at bs b) ≡ 126
  full b more is =
      let fits : CountFits false _ = rw (ne_eqb (b + 1) (blocks bs) (λ same. omega arith)) at is.2.count_due in
      is.2.block.counted ∙ fits

  pub count_most : (b count : ℕ) → AreRead bs b count → count ≤ 126 * (b + 1)
  count_most b count read =
      let block = (read.sound b (omega arith)).2.block in
      omega (arith, read.counted, block.counted, block.most)

  due_after : (b : ℕ) → due_kind bs (b + 1) ≡ kind_byte bs
  due_after b = rw (ne_eqb (b + 1) 0 (λ none. omega arith)) refl

  read_first : (start : Block) → BlockLaw (block_at bs 0) 0 0 (eqb 1 (blocks bs)) (Ok start) → AreRead bs 0 start.count
  read_first start law = record {
    sound = λ j h. let same : 0 ≡ j = omega arith in subst (SoundAt bs) same (start.kind, law.0, law.1);
    counted = omega (arith, law.2, law.1.block.counted);
  }

  read_more : (b count : ℕ) (next : Block) → AreRead bs b count → b + 1 < blocks bs → BlockLaw (block_at bs (b + 1)) (b + 1) (kind_byte bs) (eqb (b + 1 + 1) (blocks bs)) (Ok next) → AreRead bs (b + 1) (count + next.count)
  read_more b count next read more law =
      let here : SoundAt bs (b + 1) = (next.kind, law.0, rw (due_after b) law.1) in
      record {
        sound = λ j h.
            elim (cases_eq j (b + 1)) [
              | inl same ↦ subst (SoundAt bs) (sym same) here
              | inr other ↦ read.sound j (omega arith)
            ];
        counted = omega (arith, read.counted, full b more (read.sound b (omega arith)), law.2, law.1.block.counted);
      }

  first_fault : WholeBlocks bs → (f : BlockFault) → BlockLaw (block_at bs 0) 0 0 (eqb 1 (blocks bs)) (Err f) → PaperFaultLaw bs (paper.Block f)
  first_fault whole f law = (whole, (0, whole.some, law, λ j before. absurd (omega arith)))

  later_fault : WholeBlocks bs → (b count : ℕ) (f : BlockFault) → AreRead bs b count → b + 1 < blocks bs → BlockLaw (block_at bs (b + 1)) (b + 1) (kind_byte bs) (eqb (b + 1 + 1) (blocks bs)) (Err f) → PaperFaultLaw bs (paper.Block f)
  later_fault whole b count f read more law =
      (whole, (b + 1, more, rw (due_after b) law, λ j before. read.sound j before))

  abbrev saying : Kind → ℕ → Contents
  saying kind count = record { kind = kind; numbers = numbers bs count }

  -- all blocks were read
  read_all : WholeBlocks bs → (b count : ℕ) (kind : Kind) → AreRead bs b count → b + 1 ≡ blocks bs → kind_number kind ≡ kind_byte bs → Ok (record { kind = kind; numbers = numbers bs count }) ≡ contents_of bs
  read_all whole b count kind read all marked =
      let pass = (paper_exactly bs).1 (whole, λ j h. let is = read.sound j (omega arith) in passes_from_due _ _ _ _ is.0 is.1 is.2) in
      let same_kind : kind ≡ kind_of (kind_byte bs) = sym (ap kind_of (sym marked) ∙ kind_again kind) in
      let same_count : count ≡ paper_count bs = omega (arith, read.counted, byte_at bs b 3 (512 * (blocks bs - 1) + 3) (lit< tt) (omega arith)) in
      ap₂ (λ k n. Ok (saying k n)) same_kind same_count ∙ sym (ap (λ v. answered v (saying (kind_of (kind_byte bs)) (paper_count bs))) pass)

-- where the reading stands in the other blocks: the next place, the blocks that are left, and those that were read
pub record Stands (bs : List ℕ) (others : List (List ℕ)) (place count : ℕ) (left : List (List ℕ)) : Type 0 where
  pub among : Numbered others place left
  pub read : AreRead bs among.passed count

-- at the place as the code has it
pub at_place : {bs : List ℕ} {others : List (List ℕ)} {place now count : ℕ} {left : List (List ℕ)} → place ≡ now → Stands bs others now count left → Stands bs others place count left
at_place same stands = rw same stands

same_law : (x y : List ℕ) (p q d e : ℕ) (l m : Bool) (r : Result Block BlockFault) → x ≡ y → p ≡ q → d ≡ e → l ≡ m → BlockLaw x p d l r → BlockLaw y q e m r
same_law x y p q d e l m r at place due last law = rw (at, place, due, last) at law

-- what the block reader answered of the first block, and of each of the others
module _ {bs start : List ℕ} {others : List (List ℕ)} (are : AreBlocks bs start others) {only : Bool} (is_only : only ≡ eqb (length others) 0) where
  first_law : (r : Result Block BlockFault) → BlockLaw start 0 0 only r → BlockLaw (block_at bs 0) 0 0 (eqb 1 (blocks bs)) r
  first_law r law =
      let last : only ≡ eqb 1 (blocks bs) = is_only ∙ same_test (length others) 0 1 (blocks bs) (λ is. omega (arith, are.many), λ is. omega (arith, are.many)) in
      same_law start (block_at bs 0) 0 0 0 0 only (eqb 1 (blocks bs)) r are.first refl refl last law

  pub start_fails : (f : BlockFault) → BlockLaw start 0 0 only (Err f) → PaperFaultLaw bs (paper.Block f)
  start_fails f law = first_fault bs are.whole f (first_law (Err f) law)

  module _ {block : Block} (law : BlockLaw start 0 0 only (Ok block)) where
    pub start_read : Stands bs others 1 block.count others
    start_read = record { among = none_passed others; read = read_first bs block (first_law (Ok block) law) }

    kind_read : kind_number block.kind ≡ kind_byte bs
    kind_read = sym (first_law (Ok block) law).1.block.marked ∙ kind_of_first bs

    module _ {place count : ℕ} {left : List (List ℕ)} (stands : Stands bs others place count left) where
      -- a block that is read next
      module _ {x : List ℕ} {more : List (List ℕ)} {due : ℕ} {last : Bool} (at : left ≡ x ∷ more) (is_due : due ≡ kind_number block.kind) (is_last : last ≡ eqb place (length others)) where
        is_next : x ≡ block_at bs (stands.among.passed + 1)
        is_next = here stands.among at [] ∙ are.each stands.among.passed [] (inside stands.among at)

        next_law : (r : Result Block BlockFault) → BlockLaw x place due last r → BlockLaw (block_at bs (stands.among.passed + 1)) (stands.among.passed + 1) (kind_byte bs) (eqb (stands.among.passed + 1 + 1) (blocks bs)) r
        next_law r law =
            let b : ℕ = stands.among.passed + 1 in
            let ends : last ≡ eqb (b + 1) (blocks bs) = is_last ∙ same_test place (length others) (b + 1) (blocks bs) (λ is. omega (arith, are.many, stands.among.next), λ is. omega (arith, are.many, stands.among.next)) in
            same_law x (block_at bs b) place b due (kind_byte bs) last (eqb (b + 1) (blocks bs)) r is_next stands.among.next (is_due ∙ kind_read) ends law

        pub next_fails : (f : BlockFault) → BlockLaw x place due last (Err f) → PaperFaultLaw bs (paper.Block f)
        next_fails f law =
            later_fault bs are.whole stands.among.passed count f stands.read (omega (arith, are.many, inside stands.among at)) (next_law (Err f) law)

        pub next_read : (next : Block) → BlockLaw x place due last (Ok next) → Stands bs others (place + 1) (count + next.count) more
        next_read next law = record {
          among = more_passed stands.among at;
          read = read_more bs stands.among.passed count next stands.read (omega (arith, are.many, inside stands.among at)) (next_law (Ok next) law);
        }

      -- the iterator has no place left, or no block
      ended : (65535 - place ≡ 0) ⊎ (length left ≡ 0) → stands.among.passed + 1 ≡ blocks bs
      ended end = omega (arith, are.many, all_passed stands.among 65535 (omega (arith, are.many, are.whole.most)) end)

      pub count_small : (count + 255 < 65536) × (count ≤ 126 * blocks bs)
      count_small =
          let most = count_most bs stands.among.passed count stands.read in
          (omega (arith, are.many, are.whole.most, stands.among.within), omega (arith, are.many, stands.among.within))

      pub all_read : (65535 - place ≡ 0) ⊎ (length left ≡ 0) → Ok (record { kind = block.kind; numbers = numbers bs count }) ≡ contents_of bs
      all_read none =
          read_all bs are.whole stands.among.passed count block.kind stands.read (ended none) kind_read
