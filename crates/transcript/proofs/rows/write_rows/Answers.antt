use Rattle.std.proofs.Common.{rules, append_assoc}
use Rattle.transcript.specs.Rows.{rows_text}
use Rattle.transcript.proofs.rows.write_rows.Goals as goal

pub loop-node-preserved : goal.loop-node-preserved
loop-node-preserved g c = search (rules, append_assoc)

pub returns : goal.returns
unfolding rows_text
returns g c = search rules
