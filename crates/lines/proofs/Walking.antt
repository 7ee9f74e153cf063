use Rattle.std.proofs.Common.{◌≡◌, ℕ, zero, suc, ◌+◌, ◌-◌, ◌<◌, List, [], ◌∷◌, length, drop, Some, None, Option, refl, arith}
use Rattle.std.specs.Option.{option_map}
use Rattle.std.specs.List.{slice_get}
use Rattle.lines.specs.Fields.{place_of}

-- the first of what is left after k
pub nth_left : {X : Type 0} (xs : List X) (k : ℕ) → slice_get (drop k xs) 0 ≡ slice_get xs k
nth_left [] zero = refl
nth_left [] (suc k) = refl
nth_left (x ∷ xs) zero = refl
nth_left (x ∷ xs) (suc k) = nth_left xs k

-- the place of a field, counted on from the start of the fields that are left
abbrev pub place_on : ℕ → ℕ → List (List ℕ) → ℕ → Option ℕ
place_on s k fs i = option_map (λ n. s + n) (place_of fs (i - k))

on_none : (o : Option ℕ) → option_map (λ n. 0 + n) o ≡ o
on_none None = refl
on_none (Some n) = let same : 0 + n ≡ n = omega arith in rw same

-- from the start of the line
pub place_none : (fs : List (List ℕ)) (i : ℕ) → place_on 0 0 fs i ≡ place_of fs i
place_none fs i = let same : i - 0 ≡ i = omega arith in rw (same, on_none (place_of fs i))

-- at the field
pub place_all : (s k i : ℕ) (fs : List (List ℕ)) → k ≡ i → 0 < length fs → place_on s k fs i ≡ Some s
place_all s k i [] e h = absurd (omega arith)
place_all s k i (f ∷ fs) e h =
    let none : i - k ≡ 0 = omega arith in
    let same : s + 0 ≡ s = omega arith in
    rw (none, same)
