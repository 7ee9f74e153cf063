use Rattle.law.proofs.law_holds.Goals as goal
use Rattle.law.proofs.Lawful.{law}

pub returns : goal.returns
returns g c = law g.R.Reading.meaning
