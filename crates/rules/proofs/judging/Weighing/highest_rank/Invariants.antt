use Rattle.std.proofs.Common.{◌≡◌, Ok}
use Rattle.papers.specs.First.{first}
use Rattle.rules.specs.Ranks.{highest, rank_fits}
use Rattle.rules.specs.Weighing.{numbers_of}
use Rattle.rules.proofs.judging.Weighing.highest_rank.Given as goal

abbrev pub invariant-loop-state : goal.invariant-loop-state
invariant-loop-state g l =
    let xs = numbers_of l.self in
    (first (rank_fits xs) l.state ≡ Ok tt) × (l.high ≡ highest xs l.state)
