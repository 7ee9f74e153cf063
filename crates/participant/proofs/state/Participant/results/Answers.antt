use Rattle.std.proofs.Common.{◌≡◌, ℕ, vec_items, Option, ap, ◌∙◌, arith}
use Rattle.participant.specs.Held.{Held}
use Rattle.participant.specs.Results.{decided_cell, decision_at, each_of}
use Rattle.participant.proofs.ResultLaws.{each_more, each_missing}
use Rattle.participant.proofs.state.Participant.results.Goals as goal

pub loop-item-preserved : goal.loop-item-preserved
loop-item-preserved g c =
    let f : ℕ → Option (Option g.row.R.Denot) = λ k. decided_cell (decision_at c.args.self.now k) in
    each_more f c.loop-item.item (vec_items c.loop-item.list) (vec_items c.push.new.self) c.in-Some.cell
    c.loop-item.invariant (c.in-Some.ensures ∙ ap decided_cell c.decision.ensures.decision) c.in_ok-push.ensures.items

pub returns-in_default-clause-results : goal.returns-in_default-clause-results
returns-in_default-clause-results g c =
    let f : ℕ → Option (Option g.row.R.Denot) = λ k. decided_cell (decision_at c.args.self.now k) in
    let count : c.items-item-end.result ≡ c.args.self.now.world.state.table.m = c.items-item-end.ensures ∙ ap (λ (h : Held g.row.R.Denot). h.world.state.table.m) c.self.view_is in
    each_missing f c.loop-item.item c.args.self.now.world.state.table.m (omega (arith, c.loop-item-test.true, count))
    (c.in_default.ensures ∙ ap decided_cell c.decision.ensures.decision)

pub returns-clause-results : goal.returns-clause-results
returns-clause-results g c =
    let f : ℕ → Option (Option g.row.R.Denot) = λ k. decided_cell (decision_at c.args.self.now k) in
    let count : c.items-item-end.result ≡ c.args.self.now.world.state.table.m = c.items-item-end.ensures ∙ ap (λ (h : Held g.row.R.Denot). h.world.state.table.m) c.self.view_is in
    let all : c.loop-item.item ≡ c.args.self.now.world.state.table.m = omega (arith, c.loop-item-test.false, c.loop-item.auto.item-end, count) in
    c.loop-item.invariant ∙ ap (each_of f) all
