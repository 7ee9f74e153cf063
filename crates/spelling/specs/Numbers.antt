-- Numbers as text.
use Rattle.std.specs.Prelude.{ℕ, zero, suc, ◌+◌, ◌/◌, ◌%◌, cond, List, [], ◌∷◌, ◌++◌, nat_lt}

-- the decimal digits of a number in ASCII, the last so many at most: no leading zeros, and one digit for 0
abbrev pub digits_by : ℕ → ℕ → List ℕ
digits_by zero n = []
digits_by (suc more) n = cond (nat_lt n 10) ((48 + n) ∷ []) (digits_by more (n / 10) ++ ((48 + n % 10) ∷ []))

-- the decimal digits of a number of 64 bits: 20 are enough
unfoldable pub digits : ℕ → List ℕ
digits n = digits_by 20 n
