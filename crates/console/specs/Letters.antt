-- The letters of lines, and how many fields follow each.
use Rattle.std.specs.Prelude.{◌≡◌, ℕ, Bool, cond, ◌&&◌, List, length, Some, None, Option, Result, ◌==◌, nat_le, slice_index}
use Rattle.std.specs.List.{slice_get}
use Rattle.std.specs.Option.{ok_or}
use Rattle.lines.specs.Digits.{and_then}
use Rattle.console.specs.declared.types.Letter.{Letter}
use Rattle.console.specs.declared.types.Letter.TheVariants.{Make, Faulty, Propose, Strip, Open, Value, Bit, Final, Close, Look, End}
use Rattle.console.specs.declared.types.NoLetter.{NoLetter}

-- what a field is that is one octet, by that octet; none for any other field
abbrev pub by_octet : {X : Type 0} → (ℕ → Option X) → List ℕ → Option X
by_octet named f = cond (length f == 1) (named (slice_index f 0)) None

-- the letter that an octet is: N, X, I, T, O, S, B, W, C, L or Z
abbrev pub letter_named : ℕ → Option Letter
letter_named c =
    cond (c == 78) (Some Make)
    (cond (c == 88) (Some Faulty)
    (cond (c == 73) (Some Propose)
    (cond (c == 84) (Some Strip)
    (cond (c == 79) (Some Open)
    (cond (c == 83) (Some Value)
    (cond (c == 66) (Some Bit)
    (cond (c == 87) (Some Final)
    (cond (c == 67) (Some Close)
    (cond (c == 76) (Some Look)
    (cond (c == 90) (Some End)
    None))))))))))

-- the result is the letter that a character is, or says that there is none
abbrev pub Lettered : ℕ → Result Letter NoLetter → Type 0
Lettered c r = r ≡ ok_or (letter_named c) (record {})

-- the letter that the first field of a line is
abbrev pub letter_in : List (List ℕ) → Option Letter
letter_in fs = and_then (slice_get fs 0) (by_octet letter_named)

-- whether a letter's line has so many fields after the letter
abbrev pub takes_fields : Letter → ℕ → Bool
takes_fields Make count = count == 3
takes_fields Faulty count = count == 1
takes_fields Propose count = count == 3
takes_fields Strip count = nat_le 1 count && nat_le count 8
takes_fields Open count = count == 0
takes_fields Value count = count == 4
takes_fields Bit count = count == 4
takes_fields Final count = count == 2
takes_fields Close count = count == 0
takes_fields Look count = count == 2
takes_fields End count = count == 0
