use Rattle.std.proofs.Common.{subst}
use Rattle.desk.specs.Views.{Held, HasRoom}
use Rattle.desk.proofs.Room.{has_room}
use Rattle.desk.proofs.stage.Desk.row.Goals as goal

pub returns-in-Some-Ended-clause-room : goal.returns-in-Some-Ended-clause-room
returns-in-Some-Ended-clause-room g c =
    subst (λ (v : Held g.row.R.Denot). HasRoom v) c.self.view_is (has_room c.self.inside c.self.invariant)

pub returns-in_default-clause-room : goal.returns-in_default-clause-room
returns-in_default-clause-room g c =
    subst (λ (v : Held g.row.R.Denot). HasRoom v) c.self.view_is (has_room c.self.inside c.self.invariant)
