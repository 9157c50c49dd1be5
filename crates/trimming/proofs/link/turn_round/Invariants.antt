use Rattle.std.proofs.Common.{◌≡◌, ◌++◌, drop, map, take}
use Rattle.trimming.specs.Links.{turned}
use Rattle.trimming.proofs.link.turn_round.Given as goal

abbrev pub invariant-loop-link : goal.invariant-loop-link
invariant-loop-link l = l.links ≡ map turned (take l.link-index l.initial.links) ++ drop l.link-index l.initial.links
