-- Where a walk over the fields of a line stands.
use Rattle.std.specs.Prelude.{ℕ, ◌+◌, List}

-- the fields of the line, and the index of the next one
pub record Spot : Type 0 where
  pub fields : List (List ℕ)
  pub index : ℕ

-- where a walk stands one field on
abbrev pub passed : Spot → Spot
passed s = record { fields = s.fields; index = s.index + 1 }
