-- A scan for the first cell that passes, one cell at a time.
use Rattle.std.proofs.Common.{◌≡◌, ℕ, ◌+◌, ◌<◌, ◌≤◌, Bool, true, false, cond, List, length, get_or, take, drop, None, count_by, Option, sym, ap, ◌∙◌, add-zero}
use Rattle.std.proofs.lemmas.List.Sums.{count_by_more_yes, count_by_more_no}
use Rattle.std.proofs.lemmas.List.{at_drop_more, at_drop_all}
use Rattle.closing.specs.Counting.{first}

-- what is found from a cell on, by what the test says of that cell
from_here : {R : Type 0} (p : Option R → Bool) (xs : List (Option R)) (i : ℕ) (x : Option R) (t : Bool) → i < length xs → x ≡ get_or xs i None → p x ≡ t
    → first p (drop i xs) ≡ cond t x (first p (drop (i + 1) xs))
from_here p xs i x t h e f =
    at_drop_more (first p) xs i None h
    ∙ ap (λ (y : Option _). cond (p y) y (first p (drop (i + 1) xs))) (sym e)
    ∙ ap (λ (u : Bool). cond u x (first p (drop (i + 1) xs))) f

-- the scan passes a cell that fails
pub first_on : {R : Type 0} (p : Option R → Bool) (xs : List (Option R)) (i : ℕ) (x : Option R) → i < length xs → x ≡ get_or xs i None → p x ≡ false
    → first p (drop i xs) ≡ first p (drop (i + 1) xs)
first_on p xs i x h e f = from_here p xs i x false h e f

-- the scan ends at a cell that passes
pub first_at : {R : Type 0} (p : Option R → Bool) (xs : List (Option R)) (i : ℕ) (x : Option R) → i < length xs → x ≡ get_or xs i None → p x ≡ true
    → first p (drop i xs) ≡ x
first_at p xs i x h e f = from_here p xs i x true h e f

-- the scan finds nothing past the last cell
pub first_out : {R : Type 0} (p : Option R → Bool) (xs : List (Option R)) (i : ℕ) → length xs ≤ i → first p (drop i xs) ≡ None
first_out p xs i h = at_drop_all (first p) xs i h

-- one more element: counted where it passes
pub count_more : {X : Type 0} (p : X → Bool) (xs : List X) (i : ℕ) (x d : X) (t : Bool) → i < length xs → x ≡ get_or xs i d → p x ≡ t
    → count_by p (take (i + 1) xs) ≡ count_by p (take i xs) + cond t 1 0
count_more p xs i x d true h e f = count_by_more_yes p xs i d h (ap p (sym e) ∙ f)
count_more p xs i x d false h e f = count_by_more_no p xs i d h (ap p (sym e) ∙ f) ∙ sym (add-zero (count_by p (take i xs)))
