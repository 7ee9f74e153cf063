-- What is counted over the nodes is counted in what was heard from them.
use Rattle.std.proofs.Common.{◌≡◌, ℕ, suc, ◌+◌, Bool, cond, List, [], ◌∷◌, length, get_or, count_by, refl, sym, ap, ap₂, ◌∙◌, arith}
use Rattle.std.proofs.lemmas.List.Sums.{length-filter, sum_by-cons}
use Rattle.std.specs.List.{filter, range_with_len}

-- from a node on, where what is read of each node is what stands in the list
from_node : {X : Type 0} (p : X → Bool) (f : ℕ → X) (d : X) (a : ℕ) (xs : List X) → ((i j : ℕ) → j ≡ a + i → f j ≡ get_or xs i d)
    → count_by (λ i. p (f i)) (range_with_len a (length xs)) ≡ count_by p xs
from_node p f d a [] h = refl
from_node p f d a (x ∷ xs) h =
    sum_by-cons (λ i. cond (p (f i)) 1 0) a (range_with_len (a + 1) (length xs))
    ∙ ap₂ ◌+◌ (ap (λ (y : _). cond (p y) 1 0) (h 0 a (omega arith))) (from_node p f d (a + 1) xs (λ i j k. h (suc i) j (omega (arith, k))))
    ∙ sym (sum_by-cons (λ y. cond (p y) 1 0) x xs)

-- a count over all nodes
pub over_nodes : {X : Type 0} (p : X → Bool) (d : X) (xs : List X) (n : ℕ) → n ≡ length xs
    → length (filter (λ i. p (get_or xs i d)) (range_with_len 0 n)) ≡ count_by p xs
over_nodes p d xs n e =
    length-filter (λ i. p (get_or xs i d)) (range_with_len 0 n)
    ∙ ap (λ (m : ℕ). count_by (λ i. p (get_or xs i d)) (range_with_len 0 m)) e
    ∙ from_node p (λ i. get_or xs i d) d 0 xs (λ i j k. ap (λ (m : ℕ). get_or xs m d) (omega (arith, k)))
