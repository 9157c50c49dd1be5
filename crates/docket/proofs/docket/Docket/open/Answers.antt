use Rattle.laws.proofs.Holding as holding
use Rattle.docket.proofs.docket.Docket.open.Goals as goal

pub returns-clause-promise : goal.returns-clause-promise
returns-clause-promise g c = holding.promise _ (g.met.P.Transducer.valid c.args.pile)
