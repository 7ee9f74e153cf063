-- The lines that come in, octet by octet.
use Rattle.std.specs.Prelude.{ℕ, ◌+◌, ◌%◌, ◌^◌, Bool, true, false, List, Option}
use Rattle.lines.specs.Gathered.{Gathered, empty, pushed}

-- the line that is coming in: its number, how many octets it takes at most, those that have come, or none if there were too many, and whether one has come
pub record Coming : Type 0 where
  pub number : ℕ
  pub limit : ℕ
  pub octets : Option (List ℕ)
  pub begun : Bool

-- the line that is coming in, as its octets are gathered
abbrev pub line_of : Coming → Gathered
line_of c = record { limit = c.limit; octets = c.octets }

-- a line of which nothing has come
abbrev pub before : ℕ → ℕ → Coming
before number limit = record { number = number; limit = limit; octets = empty; begun = false }

-- the line after an octet that does not end it
abbrev pub took : Coming → ℕ → Coming
took c b = record { number = c.number; limit = c.limit; octets = pushed c.limit c.octets b; begun = true }

-- the number of the next line, which has 64 bits
abbrev pub next : ℕ → ℕ
next n = (n + 1) % 2 ^ 64
