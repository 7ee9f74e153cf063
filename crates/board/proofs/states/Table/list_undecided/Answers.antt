use Rattle.std.proofs.Common.{◌≡◌, ℕ, ◌+◌, ◌*◌, ◌<◌, Bool, true, false, cond, ◌++◌, length, drop, set, count_by, sym, ap, ◌∙◌, mul_comm, arith, rules}
use Rattle.std.specs.List.{range_with_len}
use Rattle.std.proofs.lemmas.Nat.{mul-add-lt}
use Rattle.board.specs.declared.states.Table.{Table}
use Rattle.board.specs.Lists.{entries, entry_of}
use Rattle.board.specs.Tables.{cells_needed}
use Rattle.board.proofs.Boards.{count_more}
use Rattle.board.proofs.Entries.{open_at, open_pair, entry_pair, list_yes, entries_no, count_below}
use Rattle.board.proofs.states.Table.list_undecided.Goals as goal
use Rattle.board.proofs.states.Table.list_undecided.Goals.{then-is_undecided, else-is_undecided}

-- each pair has its place
below : (t : Table) (i j : ℕ) → i < t.n → j < t.m → i * t.m + j < cells_needed t
below t i j h l = omega (arith, mul-add-lt i t.m j t.n h l, mul_comm t.n t.m)

-- there is room for one more entry
room : (c : goal.Then-is_undecided) → c.loop-item.count < length c.loop-item.list
room c =
    let t = c.args.self.now in
    let i = c.loop-node.node in
    let j = c.loop-item.item in
    let l : j < t.m = omega arith in
    omega (arith, count_below (open_at t) (i * t.m + j) (cells_needed t) (below t i j (omega arith) l) (open_pair t i j l ∙ sym c.if-is_undecided.ensures), c.loop-item.invariant.0, c.requires)

pub offset_bounds-list-count : goal.offset_bounds-list-count
offset_bounds-list-count c = let h = room c in search rules

pub bounds-list-count : goal.bounds-list-count
bounds-list-count c = room c

pub overflow_add-count : goal.overflow_add-count
overflow_add-count c = let h = room c in search rules

pub loop-item-preserved : goal.loop-item-preserved
loop-item-preserved c =
    let t = c.args.self.now in
    let xs = c.args.list.now in
    let i = c.loop-node.node in
    let j = c.loop-item.item in
    let k = i * t.m + j in
    let n = c.loop-item.count in
    let one : Bool → ℕ = λ b. cond b 1 0 in
    let l : j < t.m = omega arith in
    let s = count_more (open_at t) k in
    let a : i * t.m + (j + 1) ≡ k + 1 = omega arith in
    let more = ap (λ z. count_by (open_at t) (range_with_len 0 z)) a in
    elim c.if-is_undecided.branch [
      | then-is_undecided w ↦
          (let u : open_at t k ≡ true = open_pair t i j l ∙ sym w.if-is_undecided.ensures in
          let h : n < length xs = omega (arith, count_below (open_at t) k (cells_needed t) (below t i j (omega arith) l) u, c.loop-item.invariant.0, c.requires) in (
            omega (arith, s, ap one u, more, w.count-is, c.loop-item.invariant.0),
            w.list-is
                ∙ ap (λ ys. set ys n (entry_of i j)) c.loop-item.invariant.1
                ∙ ap (λ e. set (entries t k ++ drop n xs) n e) (sym (entry_pair t i j l))
                ∙ list_yes t k n xs u c.loop-item.invariant.0 h
                ∙ ap (λ m. entries t (k + 1) ++ drop m xs) (sym w.count-is)
                ∙ ap (λ z. entries t z ++ drop c.if-is_undecided.count xs) (sym a),
          ))
      | else-is_undecided w ↦
          (let u : open_at t k ≡ false = open_pair t i j l ∙ sym w.if-is_undecided.ensures in (
            omega (arith, s, ap one u, more, w.count-is, c.loop-item.invariant.0),
            w.list-is
                ∙ c.loop-item.invariant.1
                ∙ ap (λ ys. ys ++ drop n xs) (sym (entries_no t k u))
                ∙ ap (λ m. entries t (k + 1) ++ drop m xs) (sym w.count-is)
                ∙ ap (λ z. entries t z ++ drop c.if-is_undecided.count xs) (sym a),
          ))
    ]
