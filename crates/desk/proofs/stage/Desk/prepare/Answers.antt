use Rattle.std.proofs.Common.{◌≡◌, length, Some, Option, refl, ap, ◌∙◌, subst, arith, rules}
use Rattle.std.proofs.lemmas.List.{take_at}
use Rattle.desk.specs.Views.{Held, view_of}
use Rattle.desk.specs.Desks.{done_reply, on_setup, prepares}
use Rattle.desk.specs.declared.stage.Stage.{Stage}
use Rattle.desk.specs.declared.stage.Stage.TheVariants.{Making}
use Rattle.desk.proofs.Same.{same_held}
use Rattle.desk.proofs.Serving.{prepared_by}
use Rattle.desk.proofs.stage.Desk.prepare.Goals as goal

pub returns-in-Some-Making : goal.returns-in-Some-Making
returns-in-Some-Making g c =
    let d = c.self.inside in
    let h = view_of d in
    let k = c.args.call.now in
    let vs = c.apply_setup-answer.new.values in
    let lv : length vs ≡ d.boards.values.len = omega (arith, c.apply_setup-answer.auto.values, c.deref_mut.ensures.len) in
    let r : c.map.result ≡ done_reply c.apply_setup-answer.result = search rules in
    let p = prepared_by h c.in-Some-Making.setup c.apply_setup-answer.new.setup k c.deref_mut.result.now vs c.apply_setup-answer.result c.map.result
    c.deref_mut.ensures.value (omega (arith, c.deref_mut.ensures.len, d.boards.cells.0)) c.apply_setup-answer.ensures r in
    let e : ◌≡◌ {A = Option Stage} (Some (Making c.in-Some-Making.setup)) d.stage = search rules in
    record {
      reply = p.0 ∙ subst (λ (v : Held g.row.R.Denot). (prepares h k c.in-Some-Making.setup).reply ≡ (on_setup v (prepares v k) v.stage).reply) c.self.view_is (ap (λ s. (on_setup h (prepares h k) s).reply) e);
      desk = same_held _ _ _ _ _ _ _ _ _ _ refl (take_at vs _ _ lv) refl refl refl ∙ p.1 ∙ subst (λ (v : Held g.row.R.Denot). (prepares h k c.in-Some-Making.setup).held ≡ (on_setup v (prepares v k) v.stage).held) c.self.view_is (ap (λ s. (on_setup h (prepares h k) s).held) e);
    }
