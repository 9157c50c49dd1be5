use Rattle.trimming.specs.Links.{AreEdges}
use Rattle.trimming.proofs.link.links_of.Given as goal

abbrev pub invariant-loop-i : goal.invariant-loop-i
invariant-loop-i g l = AreEdges (g.T.Transducer.meaning l.below) l.i l.links.items
