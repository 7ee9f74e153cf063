use Rattle.std.proofs.Common.{◌≡◌}
use Rattle.law.specs.Runs.{Prepared, setup_run}
use Rattle.participant.specs.Participants.{faulty_moves}
use Rattle.participant.proofs.begin.mark_others.Given as goal

-- the nodes so far are marked, but for this one
abbrev pub invariant-loop-other : goal.invariant-loop-other
invariant-loop-other g l =
    ◌≡◌ {A = Prepared g.row.R.Denot} (record { table = l.setup.table; values = l.values })
    (setup_run (record { table = l.initial.setup.table; values = l.initial.values }) (faulty_moves l.other l.node))
