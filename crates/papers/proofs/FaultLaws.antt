-- A fault is answered exactly where it is there, and none that comes earlier is. Assumes nothing.
use Rattle.std.proofs.Common.{◌≡◌, ℕ, ◌≤◌, Bool, true, false, ◌&&◌, ◌||◌, eqb, ◌≢◌, ◌↔◌, List, length, Ok, Err, Decides, sym, refl, ap, subst, inl, inr, arith}
use Rattle.std.proofs.lemmas.Bool.{cases_lt, both_ways}
use Rattle.std.proofs.lemmas.Bool.Decides.{Decides-eqb}
use Rattle.papers.proofs.BlockTests.{decides_kind, decides_count, decides_pad, padded_exactly}
use Rattle.papers.proofs.FirstLaws.{first_law, passed_not_failed}
use Rattle.papers.proofs.PaperTests.{block_exactly, decides_whole}
use Rattle.papers.proofs.Sound.{due_from_passes, passes_from_due}
use Rattle.papers.specs.Block.{block_verdict, is_kind, count_fits, kind_byte, count_byte, block_number, padding}
use Rattle.papers.specs.Bytes.{half, word, weighted}
use Rattle.papers.specs.First.{Verdict, must, ◌then◌, first}
use Rattle.papers.specs.Form.{BlockFaultLaw, PaperFaultLaw, SoundAt, WholeBlocks, KindFits, CountFits, NotPadded}
use Rattle.papers.specs.Paper.{blocks, of_block, block_passes, paper_verdict}
use Rattle.papers.specs.declared.fault.BlockFault.{BlockFault}
use Rattle.papers.specs.declared.fault.BlockFault.TheVariants as fault
use Rattle.papers.specs.declared.fault.PaperFault.{PaperFault}
use Rattle.papers.specs.declared.fault.PaperFault.TheVariants as paper

-- a test that fails, alone or before others; one that passes before others
module _ {F P : Type 0} where
  must_fails : (b : Bool) (f g : F) → Decides b P → must b f ≡ Err g → (g ≡ f) × (P → ⊥)
  must_fails true f g d e = absurd (passed_not_failed _ g refl e)
  must_fails false f g d e = (cc, λ p. both_ways false refl (d.1 p))

  fails : (b : Bool) (f : F) (w : Verdict F) → Decides b P → (P → ⊥) → must b f then w ≡ Err f
  fails true f w d bad = absurd (bad (d.0 refl))
  fails false f w d bad = refl

  goes_on : (b : Bool) (f : F) (w v : Verdict F) → Decides b P → P → w ≡ v → must b f then w ≡ v
  goes_on true f w v d good e = e
  goes_on false f w v d good e = absurd (both_ways false refl (d.1 good))

  fails_or_goes_on : {R : Type 0} (b : Bool) (f g : F) (w : Verdict F) → Decides b P → (g ≡ f → (P → ⊥) → R) → (P → w ≡ Err g → R) → must b f then w ≡ Err g → R
  fails_or_goes_on true f g w d here later e = later (d.0 refl) e
  fails_or_goes_on false f g w d here later e = here (cc) (λ p. both_ways false refl (d.1 p))

module _ (bs : List ℕ) (place : ℕ) where
  pad_fails : (i : ℕ) (g : BlockFault) → padding bs place i ≡ Err g → (g ≡ fault.Padding place) × (count_byte bs ≤ i) × (block_number bs i ≢ 0)
  pad_fails i g e =
      let bad = must_fails _ (fault.Padding place) g (decides_pad (count_byte bs) i (block_number bs i)) e in
      elim (cases_lt i (count_byte bs)) [
        | inl before ↦ absurd (bad.1 (λ past. absurd (omega arith)))
        | inr past ↦ (bad.0, past, λ none. bad.1 (λ _. none))
      ]

  padding_found : (g : BlockFault) → first (padding bs place) 126 ≡ Err g → (g ≡ fault.Padding place) × NotPadded bs
  padding_found g e =
      let p = (first_law (padding bs place) 126 g).0 e in
      let bad = pad_fails p.0 g p.2 in
      (bad.0, (p.0, p.1, bad.1, bad.2))

  padding_fails : NotPadded bs → first (padding bs place) 126 ≡ Err (fault.Padding place)
  padding_fails bad = go (first (padding bs place) 126) refl
    where
      go : (v : Verdict BlockFault) → first (padding bs place) 126 ≡ v → v ≡ Err (fault.Padding place)
      go (Ok u) e = absurd (bad.3 ((padded_exactly bs place).0 e bad.0 bad.1 bad.2))
      go (Err g) e = ap Err (padding_found g e).0

module _ (bs : List ℕ) (place due : ℕ) (last : Bool) where
  abbrev Law : BlockFault → Type 0
  Law f = BlockFaultLaw bs place due last f

  fault_is_there : (f : BlockFault) → block_verdict bs place due last ≡ Err f → Law f
  fault_is_there f =
      fails_or_goes_on _ _ _ _ (Decides-eqb (length bs) 512) (λ is bad. subst Law (sym is) bad) (λ size.
      fails_or_goes_on _ _ _ _ (Decides-eqb (word bs 508) (weighted bs 508)) (λ is bad. subst Law (sym is) (refl, size, bad)) (λ checked.
      fails_or_goes_on _ _ _ _ (Decides-eqb (half bs 0) place) (λ is bad. subst Law (sym is) (refl, size, checked, bad)) (λ at.
      fails_or_goes_on _ _ _ _ (decides_kind due (kind_byte bs)) (λ is bad. subst Law (sym is) (refl, size, checked, at, bad)) (λ kind.
      fails_or_goes_on _ _ _ _ (decides_count last (count_byte bs)) (λ is bad. subst Law (sym is) (refl, size, checked, at, kind, bad)) (λ count e.
      let bad = padding_found bs place f e in
      subst Law (sym bad.0) (refl, size, checked, at, kind, count, bad.1))))))

  -- the tests after one that passes
  module _ {w v : Verdict BlockFault} where
    past_size : length bs ≡ 512 → w ≡ v → must (eqb (length bs) 512) fault.Length then w ≡ v
    past_size = goes_on _ _ w v (Decides-eqb (length bs) 512)

    past_check : word bs 508 ≡ weighted bs 508 → w ≡ v → must (eqb (word bs 508) (weighted bs 508)) (fault.Check place) then w ≡ v
    past_check = goes_on _ _ w v (Decides-eqb (word bs 508) (weighted bs 508))

    past_place : half bs 0 ≡ place → w ≡ v → must (eqb (half bs 0) place) (fault.Place place) then w ≡ v
    past_place = goes_on _ _ w v (Decides-eqb (half bs 0) place)

    past_kind : KindFits due (kind_byte bs) → w ≡ v → must (is_kind (kind_byte bs) && (eqb due 0 || eqb (kind_byte bs) due)) (fault.Kind place) then w ≡ v
    past_kind = goes_on _ _ w v (decides_kind due (kind_byte bs))

    past_count : CountFits last (count_byte bs) → w ≡ v → must (count_fits last (count_byte bs)) (fault.Count place) then w ≡ v
    past_count = goes_on _ _ w v (decides_count last (count_byte bs))

  fault_is_answered : (f : BlockFault) → Law f → block_verdict bs place due last ≡ Err f
  fault_is_answered fault.Length bad = fails _ _ _ (Decides-eqb (length bs) 512) bad
  fault_is_answered (fault.Check at) p =
      rw p.0 (past_size p.1 (fails _ _ _ (Decides-eqb (word bs 508) (weighted bs 508)) p.2))
  fault_is_answered (fault.Place at) p =
      rw p.0 (past_size p.1 (past_check p.2 (fails _ _ _ (Decides-eqb (half bs 0) place) p.3)))
  fault_is_answered (fault.Kind at) p =
      rw p.0 (past_size p.1 (past_check p.2 (past_place p.3 (fails _ _ _ (decides_kind due (kind_byte bs)) p.4))))
  fault_is_answered (fault.Count at) p =
      rw p.0
      (past_size p.1 (past_check p.2 (past_place p.3 (past_kind p.4 (fails _ _ _ (decides_count last (count_byte bs)) p.5)))))
  fault_is_answered (fault.Padding at) p =
      rw p.0
      (past_size p.1 (past_check p.2 (past_place p.3 (past_kind p.4 (past_count p.5 (padding_fails bs place p.6))))))

  pub block_fault_exactly : (f : BlockFault) → (block_verdict bs place due last ≡ Err f) ↔ BlockFaultLaw bs place due last f
  block_fault_exactly f = (fault_is_there f, fault_is_answered f)

-- a paper's block is sound where it passes
pub sound_exactly : (bs : List ℕ) (b : ℕ) → (block_passes bs b ≡ Ok tt) ↔ SoundAt bs b
sound_exactly bs b = (
  λ e. (_, _, due_from_passes _ _ _ _ ((block_exactly bs b).0 e)),
  λ is. (block_exactly bs b).1 (passes_from_due _ _ _ _ is.0 is.1 is.2),
)

of_block_fails : (v : Verdict BlockFault) (f : PaperFault) → of_block v ≡ Err f → (g : BlockFault) × (v ≡ Err g) × (f ≡ paper.Block g)
of_block_fails (Ok u) f e = absurd (cc)
of_block_fails (Err g) f e = (g, refl, cc)

module _ (bs : List ℕ) where
  first_fault : WholeBlocks bs → (f : PaperFault) → first (block_passes bs) (blocks bs) ≡ Err f → PaperFaultLaw bs f
  first_fault whole f e =
      let p = (first_law (block_passes bs) (blocks bs) f).0 e in
      let here = of_block_fails _ f p.2 in
      subst (PaperFaultLaw bs) (sym here.2)
      (whole, (p.0, p.1, (block_fault_exactly _ _ _ _ here.0).0 here.1, λ j before. (sound_exactly bs j).0 (p.3 j before)))

  paper_fault_is_there : (f : PaperFault) → paper_verdict bs ≡ Err f → PaperFaultLaw bs f
  paper_fault_is_there f =
      fails_or_goes_on _ _ _ _ (decides_whole bs) (λ is bad. subst (PaperFaultLaw bs) (sym is) bad) (λ whole. first_fault whole f)

  paper_fault_is_answered : (f : PaperFault) → PaperFaultLaw bs f → paper_verdict bs ≡ Err f
  paper_fault_is_answered paper.Length bad = fails _ _ _ (decides_whole bs) bad
  paper_fault_is_answered (paper.Block g) p =
      let at = p.1 in
      goes_on _ _ _ _ (decides_whole bs) p.0
      ((first_law (block_passes bs) (blocks bs) (paper.Block g)).1
      (at.0, at.1, ap of_block ((block_fault_exactly _ _ _ _ g).1 at.2), λ j before. (sound_exactly bs j).1 (at.3 j before)))

  pub paper_fault_exactly : (f : PaperFault) → (paper_verdict bs ≡ Err f) ↔ PaperFaultLaw bs f
  paper_fault_exactly f = (paper_fault_is_there f, paper_fault_is_answered f)
