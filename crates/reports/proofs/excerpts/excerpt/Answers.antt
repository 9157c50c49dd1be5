use Rattle.reports.proofs.Only.{one_blamed}
use Rattle.reports.specs.Excerpts.{blame_of}
use Rattle.reports.proofs.excerpts.excerpt.Goals as goal

pub returns-clause-only : goal.returns-clause-only
returns-clause-only c q other =
    one_blamed q c.blamed_part.result c.args.text c.args.paper (blame_of c.args.refusal) other
    (rw (← c.blamed.ensures) c.blamed_part.ensures)
