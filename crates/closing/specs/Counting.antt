-- Counting what one node heard of one item, and choosing by it.
use Rattle.std.specs.Prelude.{ℕ, ◌+◌, ◌*◌, ◌/◌, Bool, true, false, cond, List, [], ◌∷◌, Some, None, count_by, Option, ◌==◌, nat_eq, nat_le}

-- the quorum of n nodes: two thirds, rounded down, and one
abbrev pub quorum_of : ℕ → ℕ
quorum_of n = 2 * n / 3 + 1

-- the weak quorum of n nodes: a third, rounded down, and one
abbrev pub weak_quorum_of : ℕ → ℕ
weak_quorum_of n = n / 3 + 1

-- whether a cell is a reading that means v
abbrev pub means : {R : Type 0} → (R → ℕ) → ℕ → Option R → Bool
means meaning v None = false
means meaning v (Some r) = meaning r == v

-- how many of the cells are readings that mean v
abbrev pub backers : {R : Type 0} → (R → ℕ) → ℕ → List (Option R) → ℕ
backers meaning v cells = count_by (means meaning v) cells

-- whether a cell is a reading whose meaning has q backers
abbrev pub backed : {R : Type 0} → (R → ℕ) → ℕ → List (Option R) → Option R → Bool
backed meaning q cells None = false
backed meaning q cells (Some r) = nat_le q (backers meaning (meaning r) cells)

-- the first cell that passes the test, or none
abbrev pub first : {R : Type 0} → (Option R → Bool) → List (Option R) → Option R
first p [] = None
first p (x ∷ xs) = cond (p x) x (first p xs)

-- the cell of the lowest node whose meaning has q backers, or none
abbrev pub leading_of : {R : Type 0} → (R → ℕ) → ℕ → List (Option R) → Option R
leading_of meaning q cells = first (backed meaning q cells) cells

-- the held cell and its grade, from the cell that has the quorum and the one that has the weak quorum
abbrev pub by_grade : {R : Type 0} → Option R → Option R → Option R × ℕ
by_grade (Some r) weak = (Some r, 2)
by_grade None (Some r) = (Some r, 1)
by_grade None None = (None, 0)

-- the held cell and its grade: 2 with the quorum q, else 1 with the weak quorum w, else none and 0
abbrev pub graded : {R : Type 0} → (R → ℕ) → ℕ → ℕ → List (Option R) → Option R × ℕ
graded meaning q w cells = by_grade (leading_of meaning q cells) (leading_of meaning w cells)

-- the mark of a bit that was sent
abbrev pub mark_of : Bool → ℕ
mark_of false = 2
mark_of true = 3

-- how many of the marks are the bit b; every octet that is no such mark counts for nothing
abbrev pub votes : Bool → List ℕ → ℕ
votes b marks = count_by (λ k. nat_eq k (mark_of b)) marks
