use Rattle.desk.proofs.Results.{Begun}
use Rattle.desk.proofs.rows.results.Given as goal

-- all items so far were accepted, and stand there
abbrev pub invariant-loop-item : goal.invariant-loop-item
invariant-loop-item g l = Begun l.outcome.table l.values l.node l.item l.list.items
