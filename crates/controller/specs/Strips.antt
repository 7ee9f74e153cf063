-- A strip's entries in octets.
use Rattle.std.specs.Prelude.{ℕ, ◌*◌, ◌/◌, Bool, List, map, length}
use Rattle.std.specs.List.{range_with_len}
use Rattle.coin.specs.Tosses.{strip_toss}
use Rattle.reading.specs.Octets.{pair_at}

-- the number in octets at entry i, two for each, the high one first
abbrev pub entry_at : List ℕ → ℕ → ℕ
entry_at o i = pair_at o (2 * i)

-- the entries in octets
abbrev pub entries_in : List ℕ → List ℕ
entries_in o = map (entry_at o) (range_with_len 0 (length o / 2))

-- the tosses of the strip over the entries in octets, the same at every node
abbrev pub tosses_in : List ℕ → ℕ → ℕ → ℕ → Bool
tosses_in o node k c = strip_toss (entries_in o) k c
