use Rattle.std.proofs.Common.{◌≡◌, ◌<◌, ℕ, Ok}
use Rattle.papers.specs.First.{Verdict, first}
use Rattle.rules.specs.declared.fault.DocketFault.{DocketFault}
use Rattle.rules.proofs.first.first_fault.Given as goal

abbrev pub invariant-loop-i : goal.invariant-loop-i
invariant-loop-i g l =
    (verdict : ℕ → Verdict DocketFault) →
    ((i : ℕ) (r : _) → i < l.fn.n → goal.F-post g l.test i r → r ≡ verdict i) → first verdict l.i ≡ Ok tt
