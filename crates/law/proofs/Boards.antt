-- Reading a board, or the table of nodes, after it was written.
use Rattle.std.proofs.Common.{◌≡◌, ℕ, zero, suc, List, get_or, set, sym, refl, ◌∙◌, arith, get_or-set_other, get_or-set_same}
use Rattle.std.proofs.lemmas.List.{set_past}
use Rattle.board.specs.Tables.{written}

module _ {X : Type 0} where
  module _ {Y : Type 0} (φ : X → Y) where
    -- what a write does not touch of an element, it touches of none
    pub set_keeps : (xs : List X) (i k : ℕ) (y d : X) → φ y ≡ φ (get_or xs i d) → φ (get_or (set xs i y) k d) ≡ φ (get_or xs k d)
    set_keeps xs i k y d h = grind (arith, get_or-set_same, get_or-set_other, set_past)

    pub written_keeps : (n : ℕ) (f : ℕ → X) (xs : List X) (d : X) → ((k : ℕ) → φ (f k) ≡ φ (get_or xs k d)) → (k : ℕ) → φ (get_or (written n f xs) k d) ≡ φ (get_or xs k d)
    written_keeps zero f xs d h k = refl
    written_keeps (suc n) f xs d h k =
        set_keeps (written n f xs) n k (f n) d (h n ∙ sym (written_keeps n f xs d h n)) ∙ written_keeps n f xs d h k
