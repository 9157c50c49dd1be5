-- The fault of a row is the first among its cells, or that it does not close. Assumes nothing.
use Rattle.std.proofs.Common.{◌≡◌, ℕ, ◌+◌, ◌-◌, ◌≤◌, Bool, true, false, cond, eqb, ◌≢◌, List, length, Some, None, Option, refl, ap, ◌∙◌, inl, inr, arith}
use Rattle.std.proofs.lemmas.Bool.{eqb-false, eqb-true}
use Rattle.std.specs.Option.{option_map}
use Rattle.papers.specs.First.{must}
use Rattle.transducers.specs.Meaning.{Edge, Meaning, from, to}
use Rattle.laws.specs.Accepted.{CellFault, CellFine, ClosedFault, EdgeBefore, RowFault, row_cells}
use Rattle.rules.specs.Rows.{arrival, cell, cell_meets, closed_row, leaves, row}
use Rattle.laws.specs.Walking.{Ring, Strip}
use Rattle.rules.specs.declared.fault.DocketFault.{DocketFault}
use Rattle.rules.specs.declared.fault.DocketFault.TheVariants.{Apart, NoEdge, Open}
use Rattle.laws.proofs.Chains.{same_edge}
use Rattle.laws.proofs.RowLaws.{closed_law, row_law}
use Rattle.laws.proofs.Verdicts.{Says, fail_says, first_says, last_says, must_says, pass_says, says_as}

-- a slot does not hold both an edge and none
pub no_edge : (m : Meaning) (i : ℕ) (e : Edge) → m.edge i ≡ None → m.edge i ≡ Some e → ⊥
no_edge m i e none some = cc

module _ (m : Meaning) (xs : List ℕ) (b j : ℕ) where
  -- an edge meets the one before it, if there is one; or there is one that it does not meet
  abbrev Meets : Edge → Type 0
  Meets e = (d : Edge) → EdgeBefore m xs b j d → to d ≡ from e

  abbrev Misses : Edge → DocketFault → Type 0
  Misses e f = (d : Edge) × EdgeBefore m xs b j d × (to d ≢ from e) × (f ≡ Apart (b + j))

  leaves_says : (e : Edge) (t : Bool) (o : Option Edge) → eqb j 0 ≡ t → cell m xs (b + j - 1) ≡ o → Says (must (leaves (cond t None (option_map to o)) e) (Apart (b + j))) (Meets e) (Misses e)
  leaves_says e true o start before =
      pass_says (λ d at. absurd (omega (arith, eqb-true j 0 start))) (λ f p. omega (arith, eqb-true j 0 start))
  leaves_says e false None start before =
      pass_says (λ d at. absurd (no_edge m _ d before at.1)) (λ f p. no_edge m _ p.0 before p.1.1)
  leaves_says e false (Some d) start before =
      says_as (must_says (eqb (to d) (from e)) (Apart (b + j)) (eqb-true _ _) (eqb-false _ _) (λ same apart. apart same))
      (λ same c at. ap to (same_edge m _ c d at.1 before) ∙ same, λ meets. meets d (omega (arith, eqb-false j 0 start), before)) (λ f. (
        λ p. (d, (omega (arith, eqb-false j 0 start), before), p.0, p.1),
        λ p. (λ same. p.2 (ap to (same_edge m _ p.0 d p.1.1 before) ∙ same), p.3),
      ))

  cell_says : (o : Option Edge) → cell m xs (b + j) ≡ o → Says (cell_meets o (arrival m xs b j) (b + j)) (CellFine m xs b j) (CellFault m xs b j)
  cell_says None here =
      fail_says (NoEdge (b + j)) (λ p. no_edge m _ p.0 here p.1)
      (λ f. (λ is. inl (here, is), λ at. elim at [ inl none ↦ none.1 | inr p ↦ absurd (no_edge m _ p.0 here p.2) ]))
  cell_says (Some e) here =
      says_as (leaves_says e (eqb j 0) (cell m xs (b + j - 1)) refl refl)
      (λ meets. (e, here, meets), λ p d at. p.2 d at ∙ ap from (same_edge m _ p.0 e p.1 here)) (λ f. (
        λ p. inr (e, p.0, here, p.1, p.2, p.3),
        λ at. elim at [
          | inl none ↦ absurd (no_edge m _ e none.0 here)
          | inr p ↦ (p.1, p.3, λ same. p.4 (same ∙ ap from (same_edge m _ e p.0 here p.2)), p.5)
        ],
      ))

module _ (m : Meaning) (xs : List ℕ) (b w : ℕ) (fits : b + w ≤ length xs) (some : 1 ≤ w) where
  pub row_says : Says (row m xs b w) (Strip m (row_cells xs b w)) (RowFault m xs b w)
  row_says = record {
    passes = row_law m xs b w fits some;
    fails = (first_says w (λ j within. cell_says m xs b j (cell m xs (b + j)) refl)).fails;
  }

  pub closed_row_says : Says (closed_row m xs b w) (Ring m (row_cells xs b w)) (ClosedFault m xs b w)
  closed_row_says = last_says row_says _ (Open (b + w - 1)) (closed_law m xs b w fits some)
