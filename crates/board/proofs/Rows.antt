-- Whether anything is undecided, node by node.
use Rattle.std.proofs.Common.{◌≡◌, ℕ, zero, suc, ◌+◌, ◌*◌, ◌<◌, ◌≤◌, Bool, true, false, cond, not, ◌&&◌, length, get_or, take, count_by, sum_by, sym, refl, ap, ◌∙◌, add-zero, zero-mul, suc-mul, add-one, arith}
use Rattle.std.specs.List.{range_with_len}
use Rattle.std.proofs.lemmas.List.FromFn.{length-range_with_len}
use Rattle.std.proofs.lemmas.List.Sums.{sum_by_more, count_by-le-length}
use Rattle.board.specs.declared.states.Node.{Node}
use Rattle.board.specs.declared.states.Table.{Table}
use Rattle.board.specs.Tables.{no_node, undecided_at, undecided_in, undecided_of}
use Rattle.board.proofs.Boards.{count_more, count_front}
use Rattle.board.proofs.Entries.{open_at, open_pair}

-- one more that does not pass
pub count_same : (p : ℕ → Bool) (k : ℕ) → p k ≡ false → count_by p (range_with_len 0 k) ≡ 0 → count_by p (range_with_len 0 (k + 1)) ≡ 0
count_same p k e z =
    let one : Bool → ℕ = λ b. cond b 1 0 in
    omega (arith, count_more p k, ap one e, z)

-- where none passes, the count is 0
pub count_none : (p : ℕ → Bool) (n : ℕ) → ((k : ℕ) → p k ≡ false) → count_by p (range_with_len 0 n) ≡ 0
count_none p zero h = refl
count_none p (suc n) h = ap (λ i. count_by p (range_with_len 0 i)) (sym (add-one n)) ∙ count_same p n (h n) (count_none p n h)

-- nothing is undecided at a faulty node
pub faulty_none : (x : Node) (items : ℕ) → x.faulty ≡ true → undecided_in x items ≡ 0
faulty_none x items e = count_none (λ c. not x.faulty && not (get_or x.decided c false)) items (λ c. ap (λ (b : Bool). not b && not (get_or x.decided c false)) e)

-- at an honest node it is what is not decided
pub honest_open : (x : Node) (items : ℕ) → x.faulty ≡ false → items ≤ length x.decided → undecided_in x items ≡ count_by not (take items x.decided)
honest_open x items e h =
    ap (λ (b : Bool). count_by (λ c. not b && not (get_or x.decided c false)) (range_with_len 0 items)) e ∙ count_front not x.decided false items h

-- what is undecided up to item c of node i: that of the nodes before it, and that of the node
row_count : (t : Table) (i c : ℕ) → c ≤ t.m → count_by (open_at t) (range_with_len 0 (i * t.m + c)) ≡ count_by (open_at t) (range_with_len 0 (i * t.m)) + undecided_of t i c
row_count t i zero h = omega (arith, ap (λ k. count_by (open_at t) (range_with_len 0 k)) (add-zero (i * t.m)))
row_count t i (suc c) h =
    let one : Bool → ℕ = λ b. cond b 1 0 in
    let l : c < t.m = omega arith in
    let e : i * t.m + suc c ≡ i * t.m + c + 1 = omega arith in
    omega (
      arith,
      ap (λ k. count_by (open_at t) (range_with_len 0 k)) e,
      count_more (open_at t) (i * t.m + c),
      ap one (open_pair t i c l),
      row_count t i c (omega arith),
      count_more (undecided_at t i) c,
      ap (λ k. undecided_of t i k) (add-one c),
    )

-- the places of one more row
pub row_more : (i m : ℕ) → (i + 1) * m ≡ i * m + m
row_more i m = ap (λ j. j * m) (add-one i) ∙ suc-mul i m

-- what is undecided, node by node
pub sum_rows : (t : Table) (i : ℕ) → i ≤ length t.nodes → sum_by (λ x. undecided_in x t.m) (take i t.nodes) ≡ count_by (open_at t) (range_with_len 0 (i * t.m))
sum_rows t zero h = ap (λ k. count_by (open_at t) (range_with_len 0 k)) (sym (zero-mul t.m))
sum_rows t (suc i) h =
    omega (
      arith,
      ap (λ k. sum_by (λ x. undecided_in x t.m) (take k t.nodes)) (add-one i),
      sum_by_more (λ x. undecided_in x t.m) t.nodes i no_node (omega arith),
      sum_rows t i (omega arith),
      row_count t i t.m (omega arith),
      ap (λ k. count_by (open_at t) (range_with_len 0 k)) (row_more i t.m),
      ap (λ k. count_by (open_at t) (range_with_len 0 (k * t.m))) (add-one i),
    )

-- no node has more items undecided than there are
pub few_open : (x : Node) (items : ℕ) → undecided_in x items ≤ items
few_open x items =
    omega (arith, count_by-le-length (λ c. not x.faulty && not (get_or x.decided c false)) (range_with_len 0 items), length-range_with_len 0 items)
