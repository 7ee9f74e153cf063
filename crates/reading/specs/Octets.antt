-- Octets: a number in two of them, octets of an exact number, and octets put into a lent place.
use Rattle.std.specs.Prelude.{ℕ, ◌+◌, ◌*◌, ◌/◌, ◌%◌, Bool, cond, List, [], ◌∷◌, ◌++◌, length, drop, None, Option, ◌==◌, nat_lt, slice_index}
use Rattle.refusal.specs.declared.Refusal.{Refusal}
use Rattle.refusal.specs.declared.Refusal.TheVariants.{Short}
use Rattle.refusal.specs.Refusals.{refuse}

-- a number in two octets, the high one first
abbrev pub pair : ℕ → List ℕ
pair n = n / 256 ∷ n % 256 ∷ []

-- the number whose two octets stand at i
abbrev pub pair_at : List ℕ → ℕ → ℕ
pair_at o i = slice_index o i * 256 + slice_index o (i + 1)

-- x where the test hits, else nothing
abbrev pub kept_if : {X : Type 0} → Bool → Option X → Option X
kept_if b x = cond b x None

-- x where there are just w octets, else nothing
abbrev pub exactly : {X : Type 0} → ℕ → List ℕ → Option X → Option X
exactly w o x = kept_if (length o == w) x

-- what refuses to put w octets into a place
abbrev pub room : ℕ → List ℕ → Option Refusal
room w place = refuse (nat_lt (length place) w) Short None

-- what a place holds after w octets o were put at its front: it is as it was where they find no room, and the surplus stays
abbrev pub placed : ℕ → List ℕ → List ℕ → List ℕ
placed w o place = cond (nat_lt (length place) w) place (o ++ drop w place)
