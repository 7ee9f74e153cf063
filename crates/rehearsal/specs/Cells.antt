-- Whether two cells mean the same.
use Rattle.std.specs.Prelude.{ℕ, Bool, true, false, Some, None, Option, ◌==◌}

-- both are none, or both are readings of one meaning
abbrev pub same_cell : {R : Type 0} → (R → ℕ) → Option R → Option R → Bool
same_cell meaning (Some a) (Some b) = meaning a == meaning b
same_cell meaning (Some a) None = false
same_cell meaning None (Some b) = false
same_cell meaning None None = true
