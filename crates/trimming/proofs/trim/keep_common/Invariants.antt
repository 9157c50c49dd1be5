use Rattle.trimming.proofs.Thriving.{CommonTo}
use Rattle.trimming.proofs.trim.keep_common.Given as goal

abbrev pub invariant-loop-state : goal.invariant-loop-state
invariant-loop-state l = CommonTo l.initial.states l.other l.state l.states
