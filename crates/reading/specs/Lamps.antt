-- A lamp's meaning and octets, and the lamp that octets are read as.
use Rattle.std.specs.Prelude.{ℕ, ◌+◌, cond, List, ◌∷◌, Some, None, Option, ◌==◌, slice_index}
use Rattle.std.specs.Option.{option_map}
use Rattle.reading.specs.declared.lamp.Lamp.{Lamp}
use Rattle.reading.specs.declared.lamp.Lamp.TheVariants.{Dark, Steady, Flashing, Standby}
use Rattle.reading.specs.Octets.{pair, pair_at, kept_if, exactly}
use Rattle.reading.specs.Periods.{period_of}

-- dark, steady, flashing and standby mean different things, and so do two periods
abbrev pub lamp_meaning : Lamp → ℕ
lamp_meaning Dark = 0
lamp_meaning Steady = 1
lamp_meaning (Flashing p) = 1000 + p.tenths
lamp_meaning (Standby p) = 2000 + p.tenths

-- a tag octet, then the period in two octets, 0 where there is none
abbrev pub lamp_octets : Lamp → List ℕ
lamp_octets Dark = 0 ∷ pair 0
lamp_octets Steady = 1 ∷ pair 0
lamp_octets (Flashing p) = 2 ∷ pair p.tenths
lamp_octets (Standby p) = 3 ∷ pair p.tenths

-- the lamp of a tag and a number of tenths, if there is one
abbrev pub lamp_of : ℕ → ℕ → Option Lamp
lamp_of tag n =
    cond (tag == 0) (kept_if (n == 0) (Some Dark))
    (cond (tag == 1) (kept_if (n == 0) (Some Steady))
    (cond (tag == 2) (option_map Flashing (period_of n))
    (cond (tag == 3) (option_map Standby (period_of n)) None)))

-- three octets are a lamp's where their tag and their number are
abbrev pub lamp_reads : List ℕ → Option Lamp
lamp_reads o = exactly 3 o (lamp_of (slice_index o 0) (pair_at o 1))
