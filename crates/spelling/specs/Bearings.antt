-- A bearing as a field.
use Rattle.std.specs.Prelude.{ℕ, Bool, List, Option, nat_le}
use Rattle.std.specs.Option.{option_map}
use Rattle.reading.specs.declared.bearing.Bearing.{Bearing}
use Rattle.spelling.specs.Numbers.{digits}
use Rattle.spelling.specs.Words.{word_in}

-- the bearing of so many hundredths of a degree
abbrev pub bearing : ℕ → Bearing
bearing n = record { hundredths = n }

-- the bearing that a field spells: a number up to 65535
abbrev pub bearing_in : List ℕ → Option Bearing
bearing_in f = option_map bearing (word_in f)

-- a bearing is spelled by its number
abbrev pub bearing_text : Bearing → List ℕ
bearing_text b = digits b.hundredths

-- a bearing's number has 16 bits
abbrev pub bearing_fits : Bearing → Bool
bearing_fits b = nat_le b.hundredths 65535
