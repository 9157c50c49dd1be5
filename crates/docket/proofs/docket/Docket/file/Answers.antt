use Rattle.laws.proofs.Refusing.{filing_keeps_law}
use Rattle.docket.proofs.docket.Docket.file.Goals as goal

pub returns-in_err-claim-clause-law : goal.returns-in_err-claim-clause-law
returns-in_err-claim-clause-law g c =
    filing_keeps_law _ (g.met.P.Transducer.valid c.args.self.now.pile) c.args.paper.now

pub returns-clause-law : goal.returns-clause-law
returns-clause-law g c = filing_keeps_law _ (g.met.P.Transducer.valid c.args.self.now.pile) c.args.paper.now
