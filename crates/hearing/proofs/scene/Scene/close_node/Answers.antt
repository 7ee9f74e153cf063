use Rattle.hearing.specs.Closes.{closed_at}
use Rattle.hearing.proofs.Parts.{node_more}
use Rattle.hearing.proofs.scene.Scene.close_node.Goals as goal

pub loop-item-preserved : goal.loop-item-preserved
loop-item-preserved g c =
    let s = c.args.self.now in
    let f = closed_at g.R.Reading.meaning (g.C.Coin.tosses s.coin.now) s.table.now s.step.now s.values.now s.sent.now s.marks.now c.args.node in
    node_more s.table.now c.args.node f c.loop-item.item c.loop-item.own _ c.close_at-closed.result c.loop-item.invariant c.close_at-closed.ensures c.take_closed.ensures
