use Rattle.std.proofs.Common.{◌≡◌}
use Rattle.hearing.specs.Closes.{closed_at}
use Rattle.hearing.proofs.Parts.{node_part}
use Rattle.hearing.proofs.scene.Scene.close_node.Given as goal

abbrev pub invariant-loop-item : goal.invariant-loop-item
invariant-loop-item g l =
    let s = l.self in
    l.own ≡ node_part s.table.now l.node (closed_at g.R.Reading.meaning (g.C.Coin.tosses s.coin.now) s.table.now s.step.now s.values.now s.sent.now s.marks.now l.node) l.item
