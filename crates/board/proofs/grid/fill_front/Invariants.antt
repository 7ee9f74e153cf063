use Rattle.std.proofs.Common.{◌≡◌}
use Rattle.board.specs.Tables.{written}
use Rattle.board.proofs.grid.fill_front.Given as goal

abbrev pub invariant-loop-cell : goal.invariant-loop-cell
invariant-loop-cell g l = l.cell-items ≡ written l.cell-index (λ _. l.v) l.initial.cell-items
