use Rattle.std.proofs.Common.{◌≡◌, ◌++◌, get_or, take, drop, ap, ◌∙◌, arith}
use Rattle.std.proofs.lemmas.List.{length-take, get_or-take}
use Rattle.board.specs.Tables.{written, no_node}
use Rattle.board.proofs.Boards.{written_past, written_front}
use Rattle.hearing.specs.Closes.{node_after}
use Rattle.hearing.proofs.scene.Scene.close_nodes.Goals as goal

pub close_node-requires-clause-stood : goal.close_node-requires-clause-stood
close_node-requires-clause-stood g c =
    let s = c.args.self.now in
    let t = s.table.now in
    let xs = c.args.nodes.now in
    let i = c.loop-node.node in
    let f = node_after g.R.Reading.meaning (g.C.Coin.tosses s.coin.now) t s.step.now s.values.now s.sent.now s.marks.now in
    ap (λ ys. get_or ys i no_node) c.loop-node.invariant
    ∙ written_past i f (take t.n xs) i no_node (omega arith)
    ∙ get_or-take t.n xs i no_node (omega (arith, length-take t.n xs))
    ∙ ap (λ ys. get_or ys i no_node) c.requires

pub returns : goal.returns
returns g c =
    let s = c.args.self.now in
    let t = s.table.now in
    let xs = c.args.nodes.now in
    let f = node_after g.R.Reading.meaning (g.C.Coin.tosses s.coin.now) t s.step.now s.values.now s.sent.now s.marks.now in
    let all : c.loop-node.node ≡ t.n = omega (arith, length-take t.n xs, c.loop-node.auto.node-end, t.sizes) in
    ap (λ ys. ys ++ drop t.n xs) (c.loop-node.invariant ∙ ap (λ i. written i f (take t.n xs)) all)
    ∙ written_front t.n f xs (omega (arith, t.sizes))
