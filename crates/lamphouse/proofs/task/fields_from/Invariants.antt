use Rattle.std.proofs.Common.{◌≡◌, drop}
use Rattle.lines.specs.Fields.{fields}
use Rattle.lines.specs.Walk.{to_come}
use Rattle.lamphouse.proofs.task.fields_from.Given as goal

abbrev pub invariant-loop-k : goal.invariant-loop-k
invariant-loop-k l = to_come l.walk ≡ drop l._k (fields 32 l.line)
