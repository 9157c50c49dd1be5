-- What the two tests of a torus decide: that its shape is fair, and that a cell lies under the one above. Assumes nothing.
use Rattle.std.proofs.Common.{◌≡◌, ℕ, ◌*◌, ◌≤◌, List, length, Some, None, Decides, Option, refl, mul-le-mul_right, mul-le-mul_left, arith}
use Rattle.std.proofs.lemmas.Bool.{eqb-true, eq-eqb}
use Rattle.std.proofs.lemmas.Bool.Decides.{nat_tests}
use Rattle.transducers.specs.Meaning.{Edge, Meaning}
use Rattle.rules.specs.Torus.{fair_shape, rows, stacks, width}
use Rattle.laws.specs.Accepted.{Shaped}
use Rattle.laws.specs.Walking.{Under}
use Rattle.laws.proofs.Chains.{same_edge}
use Rattle.laws.proofs.RowFaults.{no_edge}
use Rattle.rules.proofs.Sides.{sides}

-- the test of the shape of a torus, in a paper
pub shape_decides : (xs : List ℕ) → length xs ≤ 8064 → Decides (fair_shape xs) (Shaped xs)
shape_decides xs few = (
  λ fair. let s = sides xs fair in record { some_column = s.some_column; some_row = s.some_row; all_cells = s.cells },
  λ s.
      let wide : width xs * 1 ≤ width xs * rows xs = mul-le-mul_left (width xs) s.some_row in
      let high : 1 * rows xs ≤ width xs * rows xs = mul-le-mul_right (rows xs) s.some_column in
      grind (arith, nat_tests),
)

-- the test of two cells, one above the other
pub under_decides : (m : Meaning) (i j : ℕ) → Decides (stacks (m.edge i) (m.edge j)) (Under m i j)
under_decides m i j = by_edges (m.edge i) (m.edge j) refl refl
  where
    by_edges : (o p : Option Edge) → m.edge i ≡ o → m.edge j ≡ p → Decides (stacks o p) (Under m i j)
    by_edges (Some e) (Some f) low high = (
      λ meets. (e, f, low, high, eqb-true _ _ meets),
      λ u. eq-eqb _ _ (cc (u.4, same_edge m i e u.0 low u.2, same_edge m j f u.1 high u.3)),
    )
    by_edges (Some e) None low high = (λ meets. absurd (cc), λ u. absurd (no_edge m j u.1 high u.3))
    by_edges None p low high = (λ meets. absurd (cc), λ u. absurd (no_edge m i u.0 low u.2))
