-- What is printed of a cell.
use Rattle.std.specs.Prelude.{ℕ, List, [], Some, None, Option}

-- the octets of a reading, and none for none
abbrev pub text_octets : {R : Type 0} → (R → List ℕ) → Option R → List ℕ
text_octets octets None = []
text_octets octets (Some r) = octets r
