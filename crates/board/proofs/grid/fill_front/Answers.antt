use Rattle.std.proofs.Common.{◌≡◌, ◌++◌, take, drop, ap, ◌∙◌, arith}
use Rattle.std.proofs.lemmas.List.{length-take}
use Rattle.board.specs.Tables.{written}
use Rattle.board.proofs.Boards.{written_front}
use Rattle.board.proofs.grid.fill_front.Goals as goal

pub returns : goal.returns
returns g c =
    let xs = c.args.cells.now in
    let n = c.args.count in
    let all : c.loop-cell.cell-index ≡ n = omega (arith, length-take n xs, c.loop-cell.auto.cell-index-end, c.requires) in
    ap (λ ys. ys ++ drop n xs) (c.loop-cell.invariant ∙ ap (λ i. written i (λ _. c.args.v) (take n xs)) all)
    ∙ written_front n (λ _. c.args.v) xs (omega (arith, c.requires))
