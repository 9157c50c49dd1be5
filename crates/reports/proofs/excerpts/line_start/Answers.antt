use Rattle.std.proofs.Common.{arith}
use Rattle.reports.proofs.Feeds.{first_line, last_line, line_after}
use Rattle.reports.proofs.excerpts.line_start.Goals as goal

pub loop-init : goal.loop-init
loop-init c = first_line c.args.bytes.now

pub loop-preserved : goal.loop-preserved
loop-preserved c = line_after c.args.bytes.now _ _ _ c.loop.invariant c.in_ok-start.ensures

pub returns-in_err-start : goal.returns-in_err-start
returns-in_err-start c =
    let last = last_line c.args.bytes.now _ _ c.loop.invariant c.in_err-start.ensures in
    grind (arith, last)
