-- Each rule's tests pass exactly where it is kept, and answer a fault exactly where that fault's law holds. Assumes nothing.
use Rattle.std.proofs.Common.{◌≡◌, ℕ, ◌+◌, ◌*◌, ◌<◌, ◌≤◌, Bool, true, false, not, eqb, ltb, leb, List, length, Some, None, Option, refl, ap, subst, arith}
use Rattle.std.proofs.lemmas.Bool.{both_ways, eqb-false, eqb-true, leb-false, leb-true, ltb-false, ltb-true, ne_eqb, not_from_false}
use Rattle.papers.specs.First.{must, ◌then◌}
use Rattle.papers.specs.declared.kind.Kind.{Kind}
use Rattle.papers.specs.declared.kind.Kind.TheVariants.{Strip as OfStrip, Ring as OfRing, Ranking as OfRanking, Torus as OfTorus}
use Rattle.transducers.specs.Meaning.{Edge, Meaning, Valid, from, to}
use Rattle.laws.specs.Accepted.{CellUnder, ClosedFault, RankFault, RowFault, RowRing, RowRingFault, RuleFault, RuleKept, Shaped, SlotFalls, SlotFault, TorusFault, UnderFault}
use Rattle.rules.specs.Filing.{rule}
use Rattle.rules.specs.Ranks.{edge_falls, rank, ranking}
use Rattle.rules.specs.Rows.{ring, strip}
use Rattle.rules.specs.Torus.{meets_above, row_start, rows, torus, torus_row, width}
use Rattle.laws.specs.Walking.{RankingOn, Ring, Strip, TorusOn}
use Rattle.rules.specs.declared.fault.DocketFault.{DocketFault}
use Rattle.rules.specs.declared.fault.DocketFault.TheVariants.{ApartAbove, HighRank, NoFall, RankCount, Shape}
use Rattle.laws.proofs.Chains.{same_edge}
use Rattle.laws.proofs.RowFaults.{closed_row_says, no_edge, row_says}
use Rattle.laws.proofs.RuleLaws.{ranking_law, ring_law, strip_law}
use Rattle.laws.proofs.TorusLaws.{row_fits, torus_law}
use Rattle.laws.proofs.TorusTests.{shape_decides, under_decides}
use Rattle.laws.proofs.Verdicts.{Says, decided_says, first_says, must_says, pass_says, says_as, then_says}

-- a test before another with the same fault, which it implies, changes nothing
one_test : (a b : Bool) (f : DocketFault) → (b ≡ true → a ≡ true) → must a f then must b f ≡ must b f
one_test true b f implied = refl
one_test false true f implied = absurd (both_ways false refl (implied refl))
one_test false false f implied = refl

module _ (m : Meaning) (xs : List ℕ) where
  strip_says : 1 ≤ length xs → Says (strip m xs) (Strip m xs) (RowFault m xs 0 (length xs))
  strip_says some =
      record { passes = strip_law m xs some; fails = (row_says m xs 0 (length xs) (omega arith) some).fails }

  ring_says : 1 ≤ length xs → Says (ring m xs) (Ring m xs) (ClosedFault m xs 0 (length xs))
  ring_says some =
      record { passes = ring_law m xs some; fails = (closed_row_says m xs 0 (length xs) (omega arith) some).fails }

  -- an edge from a state to itself does not fall
  falls_apart : (e : Edge) → ltb (rank xs (to e)) (rank xs (from e)) ≡ true → not (eqb (from e) (to e)) ≡ true
  falls_apart e falls =
      not_from_false _ (ne_eqb _ _ (λ same. omega (arith, ltb-true _ _ falls, ap (rank xs) same)))

  edge_says : (i : ℕ) (e : Edge) → Says (edge_falls xs (Some e) i) (rank xs (to e) < rank xs (from e)) (λ f. (rank xs (from e) ≤ rank xs (to e)) × (f ≡ NoFall i))
  edge_says i e =
      rw (one_test _ _ (NoFall i) (falls_apart e))
      (must_says _ (NoFall i) (ltb-true _ _) (ltb-false _ _) (λ lower higher. omega arith))

  slot_says : (i : ℕ) (o : Option Edge) → m.edge i ≡ o → Says (edge_falls xs o i) (SlotFalls m xs i) (SlotFault m xs i)
  slot_says i None here =
      pass_says (λ e is. absurd (no_edge m i e here is)) (λ f p. no_edge m i p.0 here p.1)
  slot_says i (Some e) here =
      says_as (edge_says i e)
      (λ falls d is. subst (λ c. rank xs (to c) < rank xs (from c)) (same_edge m i e d here is) falls, λ falls. falls e here) (λ f. (
        λ p. (e, here, p.0, p.1),
        λ p. (subst (λ c. rank xs (from c) ≤ rank xs (to c)) (same_edge m i p.0 e p.1 here) p.2, p.3),
      ))

  ranking_says : Valid m → Says (ranking m xs) (RankingOn m xs) (RankFault m xs)
  ranking_says v = record {
    passes = ranking_law m xs v;
    fails =
        (then_says (must_says (eqb (length xs) m.states) RankCount (eqb-true _ _) (eqb-false _ _) (λ same apart. apart same)) (λ sized.
        then_says (first_says (length xs) (λ q within. must_says (leb (rank xs q) 65535) (HighRank q) (leb-true _ _) (leb-false _ _) (λ low high. omega arith))) (λ small.
        first_says m.slots (λ i within. slot_says i (m.edge i) refl)))
        ).fails;
  }

module _ (m : Meaning) (xs : List ℕ) where
  torus_row_says : Shaped xs → (y : ℕ) → y < rows xs → Says (torus_row m xs y) (RowRing m xs y) (RowRingFault m xs y)
  torus_row_says s y within =
      let fits = row_fits (width xs) (rows xs) y s.some_column within in
      closed_row_says m xs (row_start xs y) (width xs) (omega (arith, s.all_cells)) s.some_column

  under_says : (i : ℕ) → Says (meets_above m xs i) (CellUnder m xs i) (UnderFault m xs i)
  under_says i = decided_says _ (ApartAbove (2 + i)) (under_decides m _ _)

  torus_says : length xs ≤ 8064 → Says (torus m xs) (TorusOn m xs) (TorusFault m xs)
  torus_says few = record {
    passes = torus_law m xs few;
    fails =
        (then_says (decided_says _ Shape (shape_decides xs few)) (λ s.
        then_says (first_says (rows xs) (torus_row_says s)) (λ rings.
        first_says (width xs * rows xs) (λ i within. under_says i)))
        ).fails;
  }

-- the rule of each kind, on the numbers of a paper
pub rule_says : (m : Meaning) → Valid m → (k : Kind) (xs : List ℕ) → (1 ≤ length xs) × (length xs ≤ 8064) → Says (rule m k xs) (RuleKept m k xs) (RuleFault m k xs)
rule_says m v OfStrip xs sizes = strip_says m xs sizes.0
rule_says m v OfRing xs sizes = ring_says m xs sizes.0
rule_says m v OfRanking xs sizes = ranking_says m xs v
rule_says m v OfTorus xs sizes = torus_says m xs sizes.1
