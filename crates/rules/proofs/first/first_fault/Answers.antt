use Rattle.std.proofs.Common.{sym}
use Rattle.papers.proofs.Order.{first_none, first_more, first_exit}
use Rattle.rules.proofs.first.first_fault.Goals as goal

pub loop-i-init : goal.loop-i-init
loop-i-init g c = λ verdict gives. sym (first_none verdict)

pub returns-in_err-test : goal.returns-in_err-test
returns-in_err-test g c = λ verdict gives.
    first_exit verdict _ c.loop-i.i _ _ c.from_residual.ensures.1 c.loop-i-test.true
    (c.loop-i.invariant verdict gives) (gives c.loop-i.i _ c.loop-i-test.true c.in_err-test.ensures)

pub loop-i-preserved : goal.loop-i-preserved
loop-i-preserved g c = λ verdict gives.
    first_more verdict _ (c.loop-i.invariant verdict gives) (sym (gives _ _ c.loop-i-test.true c.in_ok-test.ensures))
