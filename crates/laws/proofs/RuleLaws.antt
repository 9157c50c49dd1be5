-- Each rule's tests pass exactly where its relation holds. Assumes nothing.
use Rattle.std.proofs.Common.{◌≡◌, ℕ, ◌<◌, ◌≤◌, not, eqb, ◌↔◌, List, length, get_or, Some, None, Ok, Option, sym, refl, ap, subst, inl, inr, arith}
use Rattle.std.proofs.lemmas.List.{take_all}
use Rattle.std.proofs.lemmas.Bool.{cases_lt, eqb-true, eq-eqb, ne_eqb, leb-true, le-leb, ltb-true, lt-ltb, not_from_false}
use Rattle.papers.specs.First.{must, first}
use Rattle.papers.proofs.FirstLaws.{first_passes, both_pass, pass_both}
use Rattle.transducers.specs.Meaning.{Edge, Meaning, Valid, from, to}
use Rattle.rules.specs.Ranks.{edge_falls, rank_fits, ranking, slot_falls}
use Rattle.rules.specs.Rows.{ring, strip}
use Rattle.laws.specs.Walking.{RankingOn, Ring, Strip}
use Rattle.laws.proofs.RowLaws.{closed_law, must_true, part, row_law, true_must}

module _ (m : Meaning) (xs : List ℕ) where
  whole : part 0 (length xs) xs ≡ xs
  whole = take_all (length xs) xs (omega arith)

  pub strip_law : 1 ≤ length xs → (strip m xs ≡ Ok tt) ↔ Strip m xs
  strip_law some =
      let law = row_law m xs 0 (length xs) (omega arith) some in
      (λ pass. subst (Strip m) whole (law.0 pass), λ s. law.1 (subst (Strip m) (sym whole) s))

  pub ring_law : 1 ≤ length xs → (ring m xs ≡ Ok tt) ↔ Ring m xs
  ring_law some =
      let law = closed_law m xs 0 (length xs) (omega arith) some in
      (λ pass. subst (Ring m) whole (law.0 pass), λ r. law.1 (subst (Ring m) (sym whole) r))

  -- an edge's rank falls
  falls_of : (o : Option Edge) (i : ℕ) → edge_falls xs o i ≡ Ok tt → (e : Edge) → o ≡ Some e → get_or xs (to e) 0 < get_or xs (from e) 0
  falls_of None i pass e is = absurd (cc)
  falls_of (Some d) i pass e is =
      let same : d ≡ e = cc in
      let fall = (both_pass (must (not (eqb (from d) (to d))) _) _ pass).1 in
      subst (λ (f : Edge). get_or xs (to f) 0 < get_or xs (from f) 0) same (ltb-true _ _ (must_true _ _ fall))

  of_falls : (o : Option Edge) (i : ℕ) → ((e : Edge) → o ≡ Some e → get_or xs (to e) 0 < get_or xs (from e) 0) → edge_falls xs o i ≡ Ok tt
  of_falls None i falls = refl
  of_falls (Some d) i falls =
      let lower = falls d refl in
      let apart : from d ≡ to d → ⊥ = λ same. let z : get_or xs (from d) 0 ≡ get_or xs (to d) 0 = ap (λ q. get_or xs q 0) same in omega arith in
      pass_both _ _ (true_must _ _ (not_from_false _ (ne_eqb _ _ apart))) (true_must _ _ (lt-ltb _ _ lower))

  module _ (v : Valid m) where
    ranking_passes : ranking m xs ≡ Ok tt → RankingOn m xs
    ranking_passes pass =
        let a = both_pass (must (eqb (length xs) m.states) _) _ pass in
        let b = both_pass (first (rank_fits xs) (length xs)) _ a.1 in
        record {
          sized = eqb-true _ _ (must_true _ _ a.0);
          small = λ q within. leb-true _ _ (must_true _ _ ((first_passes (rank_fits xs) (length xs)).0 b.0 q within));
          falls = record {
            falls = λ i e is. falls_of (m.edge i) i (slot_passes i ((first_passes (slot_falls m xs) m.slots).0 b.1)) e is;
          };
        }
      where
        slot_passes : (i : ℕ) → ((j : ℕ) → j < m.slots → slot_falls m xs j ≡ Ok tt) → slot_falls m xs i ≡ Ok tt
        slot_passes i each =
            elim (cases_lt i m.slots) [
              | inl lt ↦ each i lt
              | inr ge ↦ rw (v.beyond i ge) refl
            ]

    passes_ranking : RankingOn m xs → ranking m xs ≡ Ok tt
    passes_ranking r =
        pass_both _ _ (true_must _ _ (eq-eqb _ _ r.sized))
        (pass_both _ _
        ((first_passes (rank_fits xs) (length xs)).1 (λ q within. true_must _ _ (le-leb _ _ (r.small q within))))
        ((first_passes (slot_falls m xs) m.slots).1 (λ i within. of_falls (m.edge i) i (λ e is. r.falls.falls i e is))))

    pub ranking_law : (ranking m xs ≡ Ok tt) ↔ RankingOn m xs
    ranking_law = (ranking_passes, passes_ranking)
