-- Two texts from a place on, by the first place at which their octets are others.
use Rattle.std.proofs.Common.{◌≡◌, ℕ, ◌+◌, min, Bool, true, false, cond, not, ◌==◌, List, [], ◌∷◌, length, position, Some, Option, refl, ap, ◌∙◌, sym, arith}
use Rattle.std.specs.Bool.{then_some}
use Rattle.std.specs.List.{zip, position_from}
use Rattle.std.specs.Option.{option_or}
use Rattle.std.proofs.lemmas.Grind.{common_steps}
use Rattle.std.proofs.lemmas.Iterator.Adapters.{position_from-zero}
use Rattle.trials.specs.Compare.{differs}

-- where two texts differ if no place of both does
abbrev at_end : ℕ → List ℕ → List ℕ → Option ℕ
at_end i xs ys = then_some (not (length xs == length ys)) (i + min (length xs) (length ys))

-- two texts that begin at place i differ at the first such place, or where one has ended
differs_from : (i : ℕ) (xs ys : List ℕ) → differs i xs ys ≡ option_or (position_from (λ p. not (p.0 == p.1)) i (zip xs ys)) (at_end i xs ys)
differs_from i [] [] = refl
differs_from i [] (y ∷ ys) = grind (arith, common_steps)
differs_from i (x ∷ xs) [] = grind (arith, common_steps)
differs_from i (x ∷ xs) (y ∷ ys) = step (differs_from (i + 1) xs ys) (x == y)
  where
    step : differs (i + 1) xs ys ≡ option_or (position_from (λ p. not (p.0 == p.1)) (i + 1) (zip xs ys)) (at_end (i + 1) xs ys)
        → (b : Bool) → cond b (differs (i + 1) xs ys) (Some i) ≡ option_or (cond (not b) (Some i) (position_from (λ p. not (p.0 == p.1)) (i + 1) (zip xs ys))) (at_end i (x ∷ xs) (y ∷ ys))
    step e true = e ∙ ap (option_or (position_from (λ p. not (p.0 == p.1)) (i + 1) (zip xs ys))) (grind (arith, common_steps))
    step e false = refl

-- the same from the front on
pub differs_position : (xs ys : List ℕ) → differs 0 xs ys ≡ option_or (position (λ p. not (p.0 == p.1)) (zip xs ys)) (then_some (not (length xs == length ys)) (min (length xs) (length ys)))
differs_position xs ys =
    differs_from 0 xs ys
    ∙ ap (λ o. option_or o (at_end 0 xs ys)) (sym (position_from-zero (λ p. not (p.0 == p.1)) (zip xs ys)))
    ∙ ap (λ k. option_or (position (λ p. not (p.0 == p.1)) (zip xs ys)) (then_some (not (length xs == length ys)) k)) (omega arith)
