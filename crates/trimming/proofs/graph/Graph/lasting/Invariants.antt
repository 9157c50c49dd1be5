use Rattle.std.proofs.Common.{◌+◌, sum, vec_len}
use Rattle.trimming.specs.Graphs.{outs}
use Rattle.trimming.proofs.Draining.{Draining}
use Rattle.trimming.proofs.graph.Graph.lasting.Given as goal

abbrev pub invariant-loop-state : goal.invariant-loop-state
invariant-loop-state l = Draining (outs l.self) l.counts.items l.going.items

abbrev pub decreases-loop-state : goal.decreases-loop-state
decreases-loop-state l = sum l.counts.items + vec_len l.going
