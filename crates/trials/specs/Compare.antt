-- Where two texts differ.
use Rattle.std.specs.Prelude.{ℕ, ◌+◌, cond, List, [], ◌∷◌, Some, None, Option, ◌==◌}

-- the place of the first octet in which two texts differ, from a place on, if there is one; a text that has ended differs from one that goes on
abbrev pub differs : ℕ → List ℕ → List ℕ → Option ℕ
differs place [] [] = None
differs place [] (y ∷ ys) = Some place
differs place (x ∷ xs) [] = Some place
differs place (x ∷ xs) (y ∷ ys) = cond (x == y) (differs (place + 1) xs ys) (Some place)
