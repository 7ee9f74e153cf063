-- A bearing's meaning and octets, and the bearing that octets are read as.
use Rattle.std.specs.Prelude.{ℕ, ◌%◌, List, Some, Option}
use Rattle.reading.specs.declared.bearing.Bearing.{Bearing}
use Rattle.reading.specs.Octets.{pair, pair_at, exactly}

-- hundredths of a degree, without whole turns
abbrev pub bearing_meaning : Bearing → ℕ
bearing_meaning b = b.hundredths % 36000

-- the hundredths in two octets
abbrev pub bearing_octets : Bearing → List ℕ
bearing_octets b = pair b.hundredths

-- any two octets are a bearing's
abbrev pub bearing_reads : List ℕ → Option Bearing
bearing_reads o = exactly 2 o (Some (record { hundredths = pair_at o 0 }))
