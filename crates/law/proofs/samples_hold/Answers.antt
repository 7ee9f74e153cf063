use Rattle.law.proofs.samples_hold.Goals as goal
use Rattle.law.proofs.Sampled.{samples}

pub returns : goal.returns
returns c = samples
