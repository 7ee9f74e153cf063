use Rattle.wire.proofs.WholeLaws.{whole_again}
use Rattle.wire.proofs.trips.read_was_written.Goals as goal

pub returns : goal.returns
returns g c = whole_again g.R.Reading.WIDTH g.R.Reading.octets g.R.Reading.reads g.met.R.Reading.whole
