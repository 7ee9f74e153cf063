-- Numbers that look random: xorshift of 64 bits.
use Rattle.std.specs.Prelude.{ℕ, ◌*◌, ◌/◌, ◌%◌, ◌^◌, cond, ◌==◌, bit_or, bit_xor}

-- the first number of a seed; it is odd, so that it is never 0
abbrev pub seeded : ℕ → ℕ
seeded seed = bit_or (seed * 0x9E3779B97F4A7C15 % 2 ^ 64) 1

-- a number and itself moved up by some bits, one against the other; what leaves the 64 bits is lost
abbrev pub mixed_up : ℕ → ℕ → ℕ
mixed_up bits x = bit_xor x (x * 2 ^ bits % 2 ^ 64)

-- a number and itself moved down by some bits, one against the other
abbrev pub mixed_down : ℕ → ℕ → ℕ
mixed_down bits x = bit_xor x (x / 2 ^ bits)

-- the number after x
abbrev pub next_of : ℕ → ℕ
next_of x = mixed_up 17 (mixed_down 7 (mixed_up 13 x))

-- a number as one below a limit; 0 where the limit is 0
abbrev pub below_limit : ℕ → ℕ → ℕ
below_limit limit x = cond (limit == 0) 0 (x % limit)
