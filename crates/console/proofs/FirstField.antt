-- The letter of a line, in its first field.
use Rattle.std.proofs.Common.{◌≡◌, ℕ, ◌<◌, List, [], ◌∷◌, length, Some, arith}
use Rattle.console.specs.declared.types.Letter.{Letter}
use Rattle.console.specs.Letters.{letter_in}

-- a letter stands in a field
pub some_field : (fs : List (List ℕ)) (l : Letter) → Some l ≡ letter_in fs → 0 < length fs
some_field [] l e = absurd (let z : ◌≡◌ {A = ℕ} 0 1 = cc in omega arith)
some_field (f ∷ fs) l e = omega arith
