-- Numbers of 16 bits as fields.
use Rattle.std.specs.Prelude.{ℕ, cond, List, Some, None, Option, nat_le}
use Rattle.lines.specs.Digits.{and_then, decimal_of}

-- a number up to 65535, else none
abbrev pub word_of : ℕ → Option ℕ
word_of n = cond (nat_le n 65535) (Some n) None

-- the number up to 65535 that a field of one to five digits writes
abbrev pub word_in : List ℕ → Option ℕ
word_in f = and_then (decimal_of f) word_of
