use Rattle.papers.proofs.Reading.{Stands}
use Rattle.papers.proofs.paper.read.read_paper.Given as goal

abbrev pub invariant-loop-place : goal.invariant-loop-place
invariant-loop-place l =
    Stands l.bytes l.others l.place-iterator.a.start l.count l.place-iterator.b.rest.now
