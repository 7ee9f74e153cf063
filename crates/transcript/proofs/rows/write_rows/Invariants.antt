use Rattle.std.proofs.Common.{◌≡◌, ◌++◌, vec_items}
use Rattle.transcript.specs.Rows.{rows_below}
use Rattle.transcript.proofs.rows.write_rows.Given as goal

-- the rows of the nodes so far stand behind the old text
abbrev pub invariant-loop-node : goal.invariant-loop-node
invariant-loop-node g l = vec_items l.text ≡ vec_items l.initial.text ++ rows_below g.R.Spelled.spelled l.desk l.node
