use Rattle.std.proofs.Common.{◌≡◌}
use Rattle.hearing.specs.Closes.{node_after}
use Rattle.board.specs.Tables.{written}
use Rattle.hearing.proofs.scene.Scene.close_nodes.Given as goal

abbrev pub invariant-loop-node : goal.invariant-loop-node
invariant-loop-node g l =
    let s = l.self in
    l.used ≡ written l.node (node_after g.R.Reading.meaning (g.C.Coin.tosses s.coin.now) s.table.now s.step.now s.values.now s.sent.now s.marks.now) l.initial.used
