use Rattle.std.proofs.Common.{◌≡◌, ◌/◌, ◌%◌}
use Rattle.hearing.specs.Closes.{value_after}
use Rattle.board.specs.Tables.{written}
use Rattle.hearing.proofs.scene.Scene.write_values.Given as goal

abbrev pub invariant-loop-k : goal.invariant-loop-k
invariant-loop-k g l =
    let s = l.self in
    l.used ≡ written l.k (λ k. value_after g.R.Reading.meaning (g.C.Coin.tosses s.coin.now) s.table.now s.step.now s.values.now s.sent.now s.marks.now (k / s.table.now.m) (k % s.table.now.m)) l.initial.used
