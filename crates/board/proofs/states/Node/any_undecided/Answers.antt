use Rattle.std.proofs.Common.{◌≡◌, true, false, cond, not, eqb, take, refl, sym, ap, ◌∙◌, arith, rules, tests}
use Rattle.std.proofs.lemmas.Iterator.{YieldsList-from_slice}
use Rattle.std.proofs.lemmas.Iterator.Search.{any_from_yields_List}
use Rattle.board.proofs.Boards.{any_sum}
use Rattle.board.proofs.Rows.{faulty_none, honest_open}
use Rattle.board.proofs.states.Node.any_undecided.Goals as goal

pub returns-then-not-self : goal.returns-then-not-self
returns-then-not-self c =
    let x = c.args.self.now in
    let front = take c.args.items x.decided in
    any_from_yields_List not _ _ c.any.result c.any.ensures.ran (YieldsList-from_slice front cc) (λ d b q k. search (rules, tests))
    ∙ any_sum not (λ d. cond (not d) 1 0) front (λ d. elim d as (λ v. not v ≡ not (eqb (cond (not v) 1 0) 0)) [ true ↦ refl | false ↦ refl ])
    ∙ ap (λ k. not (eqb k 0)) (sym (honest_open x c.args.items (search rules) (omega arith)))

pub returns-else-not-self : goal.returns-else-not-self
returns-else-not-self c =
    let x = c.args.self.now in
    let f : x.faulty ≡ true = search rules in
    ap not f ∙ ap (λ k. not (eqb k 0)) (sym (faulty_none x c.args.items f))
