use Rattle.std.proofs.Common.{refl}
use Rattle.reading.specs.PeriodLaws.{period_of_tenths}
use Rattle.reading.proofs.period.Period.within.Goals as goal

pub returns : goal.returns
returns c = period_of_tenths c.args.tenths _ refl
