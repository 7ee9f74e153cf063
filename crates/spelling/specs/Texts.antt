-- Text that is added to a list of octets.
use Rattle.std.specs.Prelude.{◌≡◌, ℕ, List, ◌++◌, Ok, Err, Result}

-- the octets were added behind the old ones; of a text that found no memory nothing is said
abbrev pub Wrote : {X E : Type 0} → Result X E → List ℕ → List ℕ → List ℕ → Type 0
Wrote (Ok x) old new octets = new ≡ old ++ octets
Wrote (Err e) old new octets = Unit {0}
