use Rattle.std.proofs.Common.{◌≡◌, ◌++◌, length, vec_items}
use Rattle.std.specs.Option.{option_map}
use Rattle.lines.specs.Walk.{to_come}
use Rattle.lamphouse.specs.Grammar.{all_of}
use Rattle.lamphouse.proofs.task.parse_all.Given as goal

-- what was read, and what is to come, make up the whole
abbrev pub invariant-loop-field : goal.invariant-loop-field
invariant-loop-field g l =
    option_map (λ xs. vec_items l.list ++ xs) (all_of g.T.Parse.parses (to_come l.field-iterator))
    ≡ all_of g.T.Parse.parses (to_come l.initial.walk)

abbrev pub decreases-loop-field : goal.decreases-loop-field
decreases-loop-field g l = length (to_come l.field-iterator)
