use Rattle.std.proofs.Common.{◌≡◌, map, get_or, None}
use Rattle.std.specs.List.{range_with_len}
use Rattle.law.specs.declared.calls.SetupCall.TheVariants.{Propose}
use Rattle.law.specs.Runs.{Prepared, setup_run}
use Rattle.participant.specs.Participants.{setup_move}
use Rattle.participant.proofs.begin.propose_cells.Given as goal

-- the cells so far are given
abbrev pub invariant-loop-item : goal.invariant-loop-item
invariant-loop-item g l =
    ◌≡◌ {A = Prepared g.row.R.Denot} (record { table = l.setup.table; values = l.values })
    (setup_run (record { table = l.initial.setup.table; values = l.initial.values }) (map (λ c. setup_move (Propose l.node c (get_or l.cells c None))) (range_with_len 0 l.item)))
