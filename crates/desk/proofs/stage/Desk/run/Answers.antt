use Rattle.std.proofs.Common.{subst}
use Rattle.desk.specs.Views.{Held, HasRoom}
use Rattle.desk.proofs.Room.{has_room}
use Rattle.desk.proofs.stage.Desk.run.Goals as goal

pub returns-clause-room : goal.returns-clause-room
returns-clause-room g c =
    subst (λ (v : Held g.row.R.Denot). HasRoom v) c.self.view_is (has_room c.self.inside c.self.invariant)
