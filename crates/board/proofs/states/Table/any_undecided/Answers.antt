use Rattle.std.proofs.Common.{not, eqb, take, refl, ap, ◌∙◌, arith, rules, tests}
use Rattle.std.proofs.lemmas.Iterator.{YieldsList-from_slice}
use Rattle.std.proofs.lemmas.Iterator.Search.{any_from_yields_List}
use Rattle.board.specs.Tables.{undecided_in}
use Rattle.board.proofs.Boards.{any_sum}
use Rattle.board.proofs.Rows.{sum_rows}
use Rattle.board.proofs.states.Table.any_undecided.Goals as goal

pub returns : goal.returns
returns c =
    let t = c.args.self.now in
    let front = take t.n t.nodes in
    any_from_yields_List (λ x. not (eqb (undecided_in x t.m) 0)) _ _ c.any.result c.any.ensures.ran (YieldsList-from_slice front cc) (λ x b q k. search (rules, tests))
    ∙ any_sum (λ x. not (eqb (undecided_in x t.m) 0)) (λ x. undecided_in x t.m) front (λ x. refl)
    ∙ ap (λ k. not (eqb k 0)) (sum_rows t t.n (omega (arith, t.sizes)))
