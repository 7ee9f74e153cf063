use Rattle.std.proofs.Common.{subst}
use Rattle.desk.specs.Views.{Held, HasRoom}
use Rattle.desk.proofs.Room.{has_room}
use Rattle.desk.proofs.stage.Desk.turn.Goals as goal

pub returns-in-None-clause-room : goal.returns-in-None-clause-room
returns-in-None-clause-room g c =
    subst (λ (v : Held g.row.R.Denot). HasRoom v) c.self.view_is (has_room c.self.inside c.self.invariant)

pub returns-in-Some-Making-clause-room : goal.returns-in-Some-Making-clause-room
returns-in-Some-Making-clause-room g c =
    subst (λ (v : Held g.row.R.Denot). HasRoom v) c.self.view_is (has_room c.self.inside c.self.invariant)

pub returns-in-Some-Running-clause-room : goal.returns-in-Some-Running-clause-room
returns-in-Some-Running-clause-room g c =
    subst (λ (v : Held g.row.R.Denot). HasRoom v) c.self.view_is (has_room c.self.inside c.self.invariant)

pub returns-in-Some-Ended-clause-room : goal.returns-in-Some-Ended-clause-room
returns-in-Some-Ended-clause-room g c =
    subst (λ (v : Held g.row.R.Denot). HasRoom v) c.self.view_is (has_room c.self.inside c.self.invariant)
