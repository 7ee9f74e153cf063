-- Boards that are written place by place.
use Rattle.std.proofs.Common.{◌≡◌, ℕ, zero, suc, ◌+◌, ◌<◌, ◌≤◌, Bool, cond, not, ◌||◌, eqb, List, [], ◌∷◌, ◌++◌, map, length, get_or, take, drop, set, count_by, sum_by, sym, refl, ap, ◌∙◌, ⊎_elim, add-one, arith}
use Rattle.std.specs.List.{range_with_len, list_any}
use Rattle.std.proofs.lemmas.List.Sums.{sum_by_push, sum_by_more, sum_by-cons}
use Rattle.std.proofs.lemmas.List.FromFn.{length-map-range_with_len, map-range_with_len_more}
use Rattle.std.proofs.lemmas.List.{map-id, get_or_past, get_or-set_same, get_or-set_other, set-append_left, take-append-drop, length-take, length-set}
use Rattle.std.proofs.lemmas.Bool.{cases_eq}
use Rattle.std.proofs.lemmas.Bool.Decides.{nat_tests}
use Rattle.board.specs.Tables.{written}

-- nothing stands past a list by index
pub past_counting : {X : Type 0} (f : ℕ → X) (n k : ℕ) (d : X) → n ≤ k → get_or (map f (range_with_len 0 n)) k d ≡ d
past_counting f n k d h = get_or_past (map f (range_with_len 0 n)) k d (omega (arith, length-map-range_with_len f 0 n))

-- one more place
pub written_more : {X : Type 0} (f : ℕ → X) (xs : List X) (k : ℕ) → set (written k f xs) k (f k) ≡ written (k + 1) f xs
written_more f xs k = ap (λ j. written j f xs) (sym (add-one k))

pub length_written : {X : Type 0} (n : ℕ) (f : ℕ → X) (xs : List X) → length (written n f xs) ≡ length xs
length_written zero f xs = refl
length_written (suc n) f xs = length-set (written n f xs) n (f n) ∙ length_written n f xs

-- what was not written stays
pub written_past : {X : Type 0} (n : ℕ) (f : ℕ → X) (xs : List X) (k : ℕ) (d : X) → n ≤ k → get_or (written n f xs) k d ≡ get_or xs k d
written_past zero f xs k d h = refl
written_past (suc n) f xs k d h = get_or-set_other (written n f xs) n k (f n) d (λ e. omega arith) ∙ written_past n f xs k d (omega arith)

-- what was written stands
pub written_at : {X : Type 0} (n : ℕ) (f : ℕ → X) (xs : List X) (k : ℕ) (d : X) → k < n → k < length xs → get_or (written n f xs) k d ≡ f k
written_at zero f xs k d h l = absurd (omega arith)
written_at (suc n) f xs k d h l =
    ⊎_elim
    (λ e. ap (λ j. get_or (set (written n f xs) n (f n)) j d) e ∙ get_or-set_same (written n f xs) n (f n) d (let q : n < length (written n f xs) = omega (arith, length_written n f xs, e) in q) ∙ ap f (sym e))
    (λ ne. get_or-set_other (written n f xs) n k (f n) d ne ∙ written_at n f xs k d (let q : (k ≡ n → ⊥) = ne in omega arith) l)
    (cases_eq k n)

-- boards that are written alike are equal
pub written_alike : {X : Type 0} (n : ℕ) (f g : ℕ → X) (xs : List X) → ((k : ℕ) → k < n → f k ≡ g k) → written n f xs ≡ written n g xs
written_alike zero f g xs e = refl
written_alike (suc n) f g xs e =
    ap (λ ys. set ys n (f n)) (written_alike n f g xs (λ k h. e k (omega arith)))
    ∙ ap (λ x. set (written n g xs) n x) (e n (omega arith))

-- one more number
pub counting_more : (k : ℕ) → range_with_len 0 (k + 1) ≡ range_with_len 0 k ++ k ∷ []
counting_more k =
    sym (map-id (range_with_len 0 (k + 1))) ∙ map-range_with_len_more (λ (x : ℕ). x) 0 k k (omega arith) ∙ ap (λ (ys : List ℕ). ys ++ k ∷ []) (map-id (range_with_len 0 k))

-- one more number: counted where it passes
pub count_more : (p : ℕ → Bool) (k : ℕ) → count_by p (range_with_len 0 (k + 1)) ≡ count_by p (range_with_len 0 k) + cond (p k) 1 0
count_more p k = ap (count_by p) (counting_more k) ∙ sum_by_push (λ x. cond (p x) 1 0) (range_with_len 0 k) k

-- a board whose front is written: the front is written, and the rest stays
pub written_append : {X : Type 0} (n : ℕ) (f : ℕ → X) (xs ys : List X) → n ≤ length xs → written n f (xs ++ ys) ≡ written n f xs ++ ys
written_append zero f xs ys h = refl
written_append (suc n) f xs ys h =
    ap (λ zs. set zs n (f n)) (written_append n f xs ys (omega arith))
    ∙ set-append_left (written n f xs) ys n (f n) (let q : n < length (written n f xs) = omega (arith, length_written n f xs) in q)

pub written_front : {X : Type 0} (n : ℕ) (f : ℕ → X) (xs : List X) → n ≤ length xs → written n f (take n xs) ++ drop n xs ≡ written n f xs
written_front n f xs h =
    sym (written_append n f (take n xs) (drop n xs) (omega (arith, length-take n xs))) ∙ ap (written n f) (take-append-drop n xs)

-- what is counted by index is counted element by element
pub count_front : {X : Type 0} (p : X → Bool) (xs : List X) (d : X) (k : ℕ) → k ≤ length xs → count_by (λ c. p (get_or xs c d)) (range_with_len 0 k) ≡ count_by p (take k xs)
count_front p xs d zero h = refl
count_front p xs d (suc k) h =
    omega (
      arith,
      ap (λ i. count_by (λ c. p (get_or xs c d)) (range_with_len 0 i)) (add-one k),
      count_more (λ c. p (get_or xs c d)) k,
      count_front p xs d k (omega arith),
      sum_by_more (λ x. cond (p x) 1 0) xs k d (omega arith),
      ap (λ i. count_by p (take i xs)) (add-one k),
    )

-- some element passes just where the sum is not 0
pub any_sum : {X : Type 0} (p : X → Bool) (f : X → ℕ) (xs : List X) → ((x : X) → p x ≡ not (eqb (f x) 0)) → list_any p xs ≡ not (eqb (sum_by f xs) 0)
any_sum p f [] h = refl
any_sum p f (x ∷ xs) h =
    ap (λ b. p x || b) (any_sum p f xs h)
    ∙ ap (λ b. b || not (eqb (sum_by f xs) 0)) (h x)
    ∙ either (f x) (sum_by f xs)
    ∙ ap (λ k. not (eqb k 0)) (sym (sum_by-cons f x xs))
  where
    either : (a b : ℕ) → (not (eqb a 0) || not (eqb b 0)) ≡ not (eqb (a + b) 0)
    either a b = grind (arith, nat_tests)
