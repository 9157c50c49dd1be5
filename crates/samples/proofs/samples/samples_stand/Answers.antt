use Rattle.samples.proofs.Sampled.{samples}
use Rattle.samples.proofs.samples.samples_stand.Goals as goal

pub returns-clause-hold : goal.returns-clause-hold
returns-clause-hold c = samples
