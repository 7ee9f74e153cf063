use Rattle.wire.proofs.BackLaws.{back_again}
use Rattle.wire.proofs.trips.written_reads_back.Goals as goal

pub returns : goal.returns
returns g c =
    back_again g.R.Reading.WIDTH g.R.Reading.octets g.R.Reading.reads g.met.R.Reading.long g.met.R.Reading.back
