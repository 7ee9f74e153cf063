use Rattle.closing.proofs.Worked.{soundings}
use Rattle.closing.proofs.item.soundings_hold.Goals as goal

pub returns : goal.returns
returns c = soundings
