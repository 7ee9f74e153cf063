use Rattle.play.proofs.Pushes.{SetupSoFar}
use Rattle.play.proofs.script.make_setup_calls.Given as goal

-- the first k calls were made
abbrev pub invariant-loop-k : goal.invariant-loop-k
invariant-loop-k g l =
    SetupSoFar (record { table = l.initial.setup.table; values = l.initial.values }) (record { table = l.setup.table; values = l.values }) l.calls l.k l.initial.answers l.answers
