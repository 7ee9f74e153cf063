use Rattle.std.proofs.Common.{◌≡◌, ℕ, ◌++◌, get_or, take, drop, set, ap, ◌∙◌, arith}
use Rattle.std.proofs.lemmas.List.{get_or-take, length-take}
use Rattle.board.specs.Tables.{written, marks_needed, mark_kept}
use Rattle.board.proofs.Boards.{written_more, written_past, written_alike, written_front}
use Rattle.board.proofs.states.Table.clear_marks.Goals as goal

pub loop-k-preserved : goal.loop-k-preserved
loop-k-preserved c =
    let t = c.args.self.now in
    let marks = take c.marks_needed.result c.args.marks.now in
    let k = c.loop-k.k in
    let f : ℕ → ℕ = λ j. mark_kept t (get_or marks j 0) j in
    let old : get_or c.loop-k.used k 0 ≡ get_or marks k 0 = ap (λ ys. get_or ys k 0) c.loop-k.invariant ∙ written_past k f marks k 0 (omega arith) in
    ap (λ x. set c.loop-k.used k x) (c.next_mark.ensures ∙ ap (λ x. mark_kept t x k) old)
    ∙ ap (λ ys. set ys k (f k)) c.loop-k.invariant
    ∙ written_more f marks k

pub returns : goal.returns
returns c =
    let t = c.args.self.now in
    let marks = c.args.marks.now in
    let n = c.marks_needed.result in
    let f : ℕ → ℕ = λ j. mark_kept t (get_or marks j 0) j in
    let g : ℕ → ℕ = λ j. mark_kept t (get_or (take n marks) j 0) j in
    let is : n ≡ marks_needed t = c.marks_needed.ensures in
    let all : c.loop-k.k ≡ n = omega (arith, length-take n marks, c.loop-k.auto.k-end) in
    ap (λ ys. ys ++ drop n marks) (c.loop-k.invariant ∙ ap (λ i. written i g (take n marks)) all ∙ written_alike n g f (take n marks) (λ j h. ap (λ x. mark_kept t x j) (get_or-take n marks j 0 h)))
    ∙ written_front n f marks (omega (arith, is))
    ∙ ap (λ i. written i f marks) is
