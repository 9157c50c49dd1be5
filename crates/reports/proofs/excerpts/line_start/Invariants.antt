use Rattle.std.proofs.Common.{◌+◌}
use Rattle.reports.specs.Excerpts.{LineStart}
use Rattle.reports.proofs.excerpts.line_start.Given as goal

abbrev pub invariant-loop : goal.invariant-loop
invariant-loop l = LineStart l.bytes (l.counter + 1) l.start
