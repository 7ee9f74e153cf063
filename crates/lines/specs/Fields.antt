-- The fields of a line, parted by single octets.
use Rattle.std.specs.Prelude.{ℕ, zero, suc, ◌+◌, Bool, ◌&&◌, List, [], ◌∷◌, length, Some, None, Option, ◌==◌, slice_index}
use Rattle.std.specs.List.{onto_first, slice_split, slice_get}
use Rattle.std.specs.Option.{option_map}
use Rattle.lines.specs.Digits.{and_then, decimal_of}

-- the fields with one more octet in front of the first
abbrev pub in_front : ℕ → List (List ℕ) → List (List ℕ)
in_front = onto_first

-- the fields of a line, parted at each octet p: one more than the line has octets p
abbrev pub fields : ℕ → List ℕ → List (List ℕ)
fields p = slice_split (λ b. b == p)

-- where the field at an index begins in its line, if there is one
abbrev pub place_of : List (List ℕ) → ℕ → Option ℕ
place_of [] i = None
place_of (f ∷ fs) zero = Some 0
place_of (f ∷ fs) (suc i) = option_map (λ n. length f + 1 + n) (place_of fs i)

-- the number in the field at an index: one to five decimal digits
abbrev pub number_at : List (List ℕ) → ℕ → Option ℕ
number_at fs i = and_then (slice_get fs i) decimal_of

-- the fields of the rest of a line, if there is one
abbrev pub fields_left : ℕ → Option (List ℕ) → List (List ℕ)
fields_left p None = []
fields_left p (Some bs) = fields p bs

-- whether a field is a dash
abbrev pub is_dash : List ℕ → Bool
is_dash f = length f == 1 && slice_index f 0 == 45
