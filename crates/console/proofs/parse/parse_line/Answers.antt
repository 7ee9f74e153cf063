use Rattle.std.proofs.Common.{arith}
use Rattle.console.proofs.FirstField.{some_field}
use Rattle.console.proofs.parse.parse_line.Goals as goal

pub overflow_sub-count : goal.overflow_sub-count
overflow_sub-count g c = grind (arith, some_field)
