use Rattle.std.proofs.Common.{◌≡◌, ◌^◌, take, sum_by, ◌∙◌, arith, rules}
use Rattle.std.proofs.iter.runs.Made.{chains}
use Rattle.std.proofs.lemmas.List.{length-take}
use Rattle.std.proofs.lemmas.Iterator.{YieldsList-from_slice}
use Rattle.std.proofs.lemmas.Iterator.Adapters.{fits_from_length, at_most_from_yields_List}
use Rattle.board.specs.Tables.{undecided_in}
use Rattle.board.proofs.Rows.{sum_rows}
use Rattle.board.proofs.states.Table.count_undecided.Goals as goal

pub sum-requires-clause-fits : goal.sum-requires-clause-fits
sum-requires-clause-fits c =
    let t = c.args.self.now in
    fits_from_length _ _ 16 (2 ^ 64) (at_most_from_yields_List (YieldsList-from_slice (take t.n t.nodes) cc) (omega (arith, length-take t.n t.nodes, t.sizes))) c.map.ensures.closure (omega arith) (λ x r q k. search rules)

pub returns : goal.returns
returns c =
    let t = c.args.self.now in
    let e : c.sum.result ≡ sum_by (λ x. undecided_in x t.m) (take t.n t.nodes) = search (rules, chains) in
    e ∙ sum_rows t t.n (omega (arith, t.sizes))
