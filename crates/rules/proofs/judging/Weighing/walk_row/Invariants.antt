use Rattle.std.proofs.Common.{◌≡◌, ◌≤◌, ◌-◌, Ok}
use Rattle.papers.specs.First.{first}
use Rattle.rules.specs.Rows.{column}
use Rattle.rules.specs.Walks.{IsWalk}
use Rattle.rules.specs.Weighing.{numbers_of}
use Rattle.rules.proofs.judging.Weighing.walk_row.Given as goal

abbrev pub invariant-loop-place : goal.invariant-loop-place
invariant-loop-place g l =
    let m = g.P.Transducer.meaning l.self.pile.now in
    let xs = numbers_of l.self in
    let j = l.place - l.start in
    (l.start ≤ l.place) × (first (column m xs l.start) j ≡ Ok tt) × IsWalk m xs l.start j l.walk
