use Rattle.std.proofs.Common.{arith}
use Rattle.trimming.proofs.Thriving.{common_all, common_more, common_none}
use Rattle.trimming.proofs.trim.keep_common.Goals as goal

pub loop-state-init : goal.loop-state-init
loop-state-init c = common_none _ _

pub loop-state-preserved : goal.loop-state-preserved
loop-state-preserved c =
    let l = c.loop-state in
    common_more c.args.states.now c.args.other.now l.state l.states (omega (arith, c.loop-state-test.true, l.auto.states)) l.invariant

pub returns : goal.returns
returns c = common_all c.args.states.now c.args.other.now c.loop-state.state c.loop-state.states c.loop-state-test.false c.loop-state.invariant
