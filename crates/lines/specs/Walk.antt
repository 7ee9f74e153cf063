-- The fields that a walk over a line has yet to give.
use Rattle.std.specs.Prelude.{ℕ, List}
use Rattle.std.specs.Option.{option_map}
use Rattle.lines.specs.declared.cursor.Fields.{Fields}
use Rattle.lines.specs.Fields.{fields_left}

-- the fields that are to come
abbrev pub to_come : Fields → List (List ℕ)
to_come f = fields_left f.part (option_map (λ r. r.now) f.rest)
