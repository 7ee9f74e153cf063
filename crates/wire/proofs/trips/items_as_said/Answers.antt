use Rattle.wire.proofs.SaidLaws.{as_said}
use Rattle.wire.proofs.trips.items_as_said.Goals as goal

pub returns : goal.returns
returns g c = as_said g.R.Reading.WIDTH g.R.Reading.reads
