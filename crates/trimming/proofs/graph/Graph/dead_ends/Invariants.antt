use Rattle.trimming.specs.Graphs.{intos, outs}
use Rattle.trimming.proofs.Draining.{Seen}
use Rattle.trimming.proofs.graph.Graph.dead_ends.Given as goal

abbrev pub invariant-loop-state : goal.invariant-loop-state
invariant-loop-state l = Seen (outs l.self) (intos l.self) l.state l.dead_ends.items
