-- A rank that falls along every edge: it bounds each walk, and there is no closed walk. Assumes nothing.
use Rattle.std.proofs.Common.{◌≡◌, ℕ, ◌+◌, ◌<◌, ◌≤◌, List, length, arith}
use Rattle.transducers.specs.Meaning.{Meaning}
use Rattle.laws.specs.Walking.{Walk, HasStrip, Falls, Ring}
use Rattle.laws.specs.Walking.Walk.{one, more}
use Rattle.laws.proofs.Paths.{walk_some}

pub walk_falls : {m : Meaning} {rank : ℕ → ℕ} {is : List ℕ} {p q : ℕ} → Falls m rank → Walk m is p q → length is + rank q ≤ rank p
walk_falls f (one {i} e at) = omega (arith, f.falls i e at)
walk_falls f (more {i} e at w) = omega (arith, f.falls i e at, walk_falls f w)

pub ring_refutes : {m : Meaning} {rank : ℕ → ℕ} {is : List ℕ} → Ring m is → Falls m rank → ⊥
ring_refutes ring f = omega (arith, walk_some ring.1, walk_falls f ring.1)

-- a graph with a rank that falls, the greatest rank of a state being the width of a strip
pub record Ranked (m : Meaning) : Type 0 where
  pub rank : ℕ → ℕ
  pub top : ℕ
  pub falls : Falls m rank
  pub below : (q : ℕ) → q < m.states → rank q ≤ top
  pub least : top < m.states
  pub attained : (q : ℕ) × (q < m.states) × (rank q ≡ top)
  pub reach : 1 ≤ top → HasStrip m top
