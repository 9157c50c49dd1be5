use Rattle.papers.proofs.Weighing.{Weighed}
use Rattle.papers.proofs.bytes.BlockBytes.weighted_sum.Given as goal

abbrev pub invariant-loop-byte : goal.invariant-loop-byte
invariant-loop-byte l = Weighed l.self.bytes.now l.byte-iterator.b.start l.sum l.byte-iterator.a.rest.now
