use Rattle.std.proofs.Common.{◌≡◌, Some, sym, ap, ◌∙◌, subst, arith, rules}
use Rattle.desk.specs.Views.{Held, view_of}
use Rattle.desk.specs.Desks.{seen_reply, on_table, looks}
use Rattle.desk.specs.declared.stage.Stage.TheVariants.{Running, Ended}
use Rattle.desk.proofs.Serving.{looked}
use Rattle.desk.proofs.stage.Desk.look.Goals as goal

pub returns-in-Some-Running : goal.returns-in-Some-Running
returns-in-Some-Running g c =
    let h = view_of c.self.inside in
    let i = c.args.node in
    let k = c.args.item in
    let r : c.map.result ≡ seen_reply i k c.decision.result = search rules in
    let s : c.self.inside.stage ≡ Some (Running c.in-Some-Running.instance) = search rules in
    subst (λ (v : Held g.row.R.Denot). c.map.result ≡ (on_table v (looks v i k) v.stage).reply) c.self.view_is (looked h c.in-Some-Running.instance.table i k c.deref.result.now c.decision.result c.map.result c.deref.ensures.value
    (omega (arith, c.deref.ensures.len, c.self.inside.boards.cells.0)) c.decision.ensures r
    ∙ sym (ap (λ s. (on_table h (looks h i k) s).reply) s))

pub returns-in-Some-Ended : goal.returns-in-Some-Ended
returns-in-Some-Ended g c =
    let h = view_of c.self.inside in
    let i = c.args.node in
    let k = c.args.item in
    let r : c.map-in-Some-Ended.result ≡ seen_reply i k c.decision-in-Some-Ended.result = search rules in
    let s : c.self.inside.stage ≡ Some (Ended c.in-Some-Ended.outcome) = search rules in
    subst (λ (v : Held g.row.R.Denot). c.map-in-Some-Ended.result ≡ (on_table v (looks v i k) v.stage).reply) c.self.view_is (looked h c.in-Some-Ended.outcome.table i k c.deref-in-Some-Ended.result.now c.decision-in-Some-Ended.result c.map-in-Some-Ended.result c.deref-in-Some-Ended.ensures.value
    (omega (arith, c.deref-in-Some-Ended.ensures.len, c.self.inside.boards.cells.0)) c.decision-in-Some-Ended.ensures r
    ∙ sym (ap (λ s. (on_table h (looks h i k) s).reply) s))
