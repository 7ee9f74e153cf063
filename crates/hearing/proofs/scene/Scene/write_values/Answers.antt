use Rattle.std.proofs.Common.{◌≡◌, ℕ, ◌/◌, ◌%◌, ◌++◌, take, drop, ap, ◌∙◌, arith}
use Rattle.std.proofs.lemmas.List.{length-take}
use Rattle.board.specs.Tables.{written}
use Rattle.board.proofs.Boards.{written_front}
use Rattle.hearing.specs.Closes.{value_after}
use Rattle.hearing.proofs.scene.Scene.write_values.Goals as goal

pub returns : goal.returns
returns g c =
    let s = c.args.self.now in
    let xs = c.args.scratch.now in
    let n = c.cells_needed.result in
    let f = λ (k : ℕ). value_after g.R.Reading.meaning (g.C.Coin.tosses s.coin.now) s.table.now s.step.now s.values.now s.sent.now s.marks.now (k / s.table.now.m) (k % s.table.now.m) in
    let all : c.loop-k.k ≡ n = omega (arith, length-take n xs, c.loop-k.auto.k-end) in
    ap (λ ys. ys ++ drop n xs) (c.loop-k.invariant ∙ ap (λ i. written i f (take n xs)) all)
    ∙ written_front n f xs (omega (arith, c.requires, c.cells_needed.ensures))
    ∙ ap (λ i. written i f xs) c.cells_needed.ensures
