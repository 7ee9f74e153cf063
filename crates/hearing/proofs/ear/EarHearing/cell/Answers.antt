use Rattle.std.proofs.Common.{None, sym, ◌∙◌, arith}
use Rattle.std.proofs.lemmas.List.FromFn.{get_or-map-range_with_len}
use Rattle.hearing.specs.Closes.{heard_cell}
use Rattle.board.proofs.Boards.{past_counting}
use Rattle.hearing.proofs.ear.EarHearing.cell.Goals as goal

pub returns-then-node-self : goal.returns-then-node-self
returns-then-node-self g c =
    let e = c.args.self.now in
    let f = heard_cell e.scene.now.table.now e.scene.now.values.now e.scene.now.sent.now e.scene.now.marks.now e.receiver e.item in
    c.heard_cell.ensures ∙ sym (get_or-map-range_with_len f 0 e.scene.now.table.now.n c.args.node c.args.node None (omega arith) (omega arith))

pub returns-else-node-self : goal.returns-else-node-self
returns-else-node-self g c =
    let e = c.args.self.now in
    let f = heard_cell e.scene.now.table.now e.scene.now.values.now e.scene.now.sent.now e.scene.now.marks.now e.receiver e.item in
    sym (past_counting f e.scene.now.table.now.n c.args.node None (omega arith))
