-- The kinds of reading and their letters.
use Rattle.std.specs.Prelude.{◌≡◌, ℕ, cond, Some, None, Option, Result, ◌==◌}
use Rattle.std.specs.Option.{ok_or}
use Rattle.reading.specs.declared.kind.Kind.{Kind}
use Rattle.reading.specs.declared.kind.Kind.TheVariants.{Bearings, Lamps}
use Rattle.reading.specs.declared.kind.NoKind.{NoKind}

-- the kind of a letter, if it is one's: B or L
abbrev pub kind_of : ℕ → Option Kind
kind_of letter = cond (letter == 66) (Some Bearings) (cond (letter == 76) (Some Lamps) None)

-- the result is the kind of the letter, or says that there is none
abbrev pub Named : ℕ → Result Kind NoKind → Type 0
Named letter r = r ≡ ok_or (kind_of letter) (record {})
