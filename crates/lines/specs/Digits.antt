-- Numbers and octets that are written in digits.
use Rattle.std.specs.Prelude.{ℕ, ◌+◌, ◌-◌, ◌*◌, ◌/◌, ◌%◌, cond, ◌&&◌, List, [], ◌∷◌, ◌++◌, length, drop, Some, None, Option, nat_le, nat_lt}
use Rattle.std.specs.Option.{option_map}

-- a value goes on to f, and none stays none
abbrev pub and_then : {X Y : Type 0} → Option X → (X → Option Y) → Option Y
and_then None f = None
and_then (Some x) f = f x

-- the value of a hexadecimal digit, 0 to 9 or A to F; none for any other octet
abbrev pub hex_value : ℕ → Option ℕ
hex_value b = cond (nat_le 48 b && nat_le b 57) (Some (b - 48)) (cond (nat_le 65 b && nat_le b 70) (Some (b - 65 + 10)) None)

-- a value that is a digit in a base, else none
abbrev pub below : ℕ → ℕ → Option ℕ
below base d = cond (nat_lt d base) (Some d) None

-- the value of a digit in a base up to 16; none for any other octet
abbrev pub digit_of : ℕ → ℕ → Option ℕ
digit_of base b = and_then (hex_value b) (below base)

-- the number that digits in a base write after the number so far; none if an octet is no digit
abbrev pub read_on : ℕ → ℕ → List ℕ → Option ℕ
read_on base n [] = Some n
read_on base n (b ∷ bs) = and_then (digit_of base b) (λ d. read_on base (n * base + d) bs)

-- the number that a field of so many digits at least and at most writes in a base; none for any other field
abbrev pub numeral_of : ℕ → ℕ → ℕ → List ℕ → Option ℕ
numeral_of base least most bs = cond (nat_le least (length bs) && nat_le (length bs) most) (read_on base 0 bs) None

-- one to five decimal digits
abbrev pub decimal_of : List ℕ → Option ℕ
decimal_of = numeral_of 10 1 5

-- one to 16 hexadecimal digits
abbrev pub hexadecimal_of : List ℕ → Option ℕ
hexadecimal_of = numeral_of 16 1 16

-- four hexadecimal digits
abbrev pub hex_word_of : List ℕ → Option ℕ
hex_word_of = numeral_of 16 4 4

-- the octet that two hexadecimal digits write
abbrev pub octet_of : ℕ → ℕ → Option ℕ
octet_of high low = and_then (digit_of 16 high) (λ h. and_then (digit_of 16 low) (λ l. Some (h * 16 + l)))

-- the octets that hexadecimal digits write, two digits an octet; none if there is a digit too many or another octet
abbrev pub octets_of : List ℕ → Option (List ℕ)
octets_of [] = Some []
octets_of (high ∷ []) = None
octets_of (high ∷ (low ∷ rest)) = and_then (octet_of high low) (λ o. option_map (λ os. o ∷ os) (octets_of rest))

-- the octets that a field writes if there are some, and so many places for them; else none
abbrev pub hex_octets_of : ℕ → List ℕ → Option (List ℕ)
hex_octets_of places bs = and_then (octets_of bs) (λ os. cond (nat_lt 0 (length os) && nat_le (length os) places) (Some os) None)

-- what lent places hold once octets are written to their front, or nothing is
abbrev pub written : Option (List ℕ) → List ℕ → List ℕ
written None places = places
written (Some os) places = os ++ drop (length os) places

-- the hexadecimal digit of a value below 16
abbrev pub hex_digit : ℕ → ℕ
hex_digit v = cond (nat_lt v 10) (48 + v) (65 + (v - 10))

-- the two hexadecimal digits of an octet
abbrev pub hex_digits : ℕ → List ℕ
hex_digits o = hex_digit (o / 16) ∷ (hex_digit (o % 16) ∷ [])
