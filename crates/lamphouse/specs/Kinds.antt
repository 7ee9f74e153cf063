-- What a line asks for, and the kind of reading that it names.
use Rattle.std.specs.Prelude.{ℕ, cond, List, length, Some, None, Option, ◌==◌, slice_index}
use Rattle.std.specs.List.{slice_get}
use Rattle.std.specs.Option.{option_map}
use Rattle.lines.specs.Digits.{and_then}
use Rattle.reading.specs.declared.kind.Kind.{Kind}
use Rattle.reading.specs.Kinds.{kind_of}
use Rattle.lamphouse.specs.declared.kind.Task.{Task}
use Rattle.lamphouse.specs.declared.kind.Task.TheVariants.{CloseItem, Begin, Hear, CloseStep}

-- the octet of a field that has one
abbrev pub letter_at : List (List ℕ) → ℕ → Option ℕ
letter_at fs i = and_then (slice_get fs i) (λ f. cond (length f == 1) (Some (slice_index f 0)) None)

-- the kind that a field names
abbrev pub kind_at : List (List ℕ) → ℕ → Option Kind
kind_at fs i = and_then (letter_at fs i) kind_of

-- what a letter asks for: N, M, C, or B or L for a kind
abbrev pub task_of_letter : ℕ → Option Task
task_of_letter b =
    cond (b == 78) (Some Begin)
    (cond (b == 77) (Some Hear)
    (cond (b == 67) (Some CloseStep) (option_map CloseItem (kind_of b))))

-- what the first field asks for
abbrev pub task_in : List (List ℕ) → Option Task
task_in fs = and_then (letter_at fs 0) task_of_letter
