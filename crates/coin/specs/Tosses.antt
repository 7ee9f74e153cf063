-- What the coins toss. A toss is a bit: true is 1.
use Rattle.std.specs.Prelude.{ℕ, ◌+◌, ◌-◌, ◌*◌, ◌/◌, ◌%◌, ◌^◌, Bool, false, cond, not, ◌||◌, List, length, None, Option, ◌==◌, bit_and, count_ones, nat_lt, slice_index}
use Rattle.refusal.specs.Refusals.{refuse}
use Rattle.refusal.specs.declared.Refusal.{Refusal}
use Rattle.refusal.specs.declared.Refusal.TheVariants.{Short}

-- whether every coin gives 0 for round k and item c: in round 0 and for an item above 15
abbrev pub no_toss : ℕ → ℕ → Bool
no_toss k c = k == 0 || nat_lt 15 c

-- what a node gets in round k for item c from a coin with the tosses f
abbrev pub toss_of : (ℕ → ℕ → ℕ → Bool) → ℕ → ℕ → ℕ → Bool
toss_of f node k c = cond (no_toss k c) false (f node k c)

-- whether a number is odd
abbrev pub odd : ℕ → Bool
odd x = x % 2 == 1

-- a strip's toss: bit c, counted from the lowest, of the entry (k - 1) modulo the number of entries
abbrev pub strip_toss : List ℕ → ℕ → ℕ → Bool
strip_toss es k c = odd (slice_index es ((k - 1) % length es) / 2 ^ c)

-- why no strip stands over so many entries: a strip has 1 to 1,024
abbrev pub strip_refusal : ℕ → Option Refusal
strip_refusal count = refuse (count == 0) Short (refuse (nat_lt 1024 count) Short None)

-- the number that a seeded coin holds against its seed
abbrev pub mixed : ℕ → ℕ → ℕ
mixed k c = ((16 * k + c + 1) * 0x9E3779B97F4A7C15) % 2 ^ 64

-- a seeded coin's toss: 1 if the seed and the mixed number share an odd number of ones
abbrev pub seeded_toss : ℕ → ℕ → ℕ → Bool
seeded_toss seed k c = odd (count_ones (bit_and seed (mixed k c)))

-- a crossed coin's toss over a coin with the tosses f: even nodes get f, odd nodes the opposite
abbrev pub crossed_toss : (ℕ → ℕ → ℕ → Bool) → ℕ → ℕ → ℕ → Bool
crossed_toss f node k c = cond (odd node) (not (f node k c)) (f node k c)
