use Rattle.std.proofs.Common.{◌≡◌, length, take, Some, Option, refl, ap, ◌∙◌, subst, arith, rules}
use Rattle.std.proofs.lemmas.List.{take_at}
use Rattle.play.specs.Moves.{Lent}
use Rattle.desk.specs.Views.{Held, view_of}
use Rattle.desk.specs.Desks.{done_reply, on_instance, acts}
use Rattle.desk.specs.declared.stage.Stage.{Stage}
use Rattle.desk.specs.declared.stage.Stage.TheVariants.{Running}
use Rattle.desk.proofs.Same.{same_held}
use Rattle.desk.proofs.Serving.{acted_by}
use Rattle.desk.proofs.stage.Desk.act.Goals as goal

pub returns-in-Some-Running : goal.returns-in-Some-Running
returns-in-Some-Running g c =
    let d = c.self.inside in
    let h = view_of d in
    let k = c.args.call.now in
    let meaning = g.R.Reading.meaning in
    let called = c.apply_by_strip-answer in
    let b : Lent g.row.R.Denot = record { values = c.deref_mut.result.now; scratch = c.deref_mut-in-Some-Running.result.now; sent = c.deref_mut-in-Some-Running-2.result.now; marks = c.deref_mut-in-Some-Running-3.result.now } in
    let b' : Lent g.row.R.Denot = record { values = called.new.values; scratch = called.new.scratch; sent = called.new.sent; marks = called.new.marks } in
    let lv : length b'.values ≡ d.boards.values.len = omega (arith, called.auto.values, c.deref_mut.ensures.len) in
    let ls : length b'.sent ≡ d.boards.sent.len = omega (arith, called.auto.sent, c.deref_mut-in-Some-Running-2.ensures.len) in
    let lm : length b'.marks ≡ d.boards.marks.len = omega (arith, called.auto.marks, c.deref_mut-in-Some-Running-3.ensures.len) in
    let r : c.map.result ≡ done_reply called.result = search rules in
    let p = acted_by h meaning c.in-Some-Running.instance called.new.instance k (take d.count d.entries) b b' called.result c.map.result refl
    (record {
      values = omega (arith, c.deref_mut.ensures.len, d.boards.cells.0);
      scratch = omega (arith, c.deref_mut-in-Some-Running.ensures.len, d.boards.cells.1);
      sent = omega (arith, c.deref_mut-in-Some-Running-2.ensures.len, d.boards.pairs.0);
      marks = omega (arith, c.deref_mut-in-Some-Running-3.ensures.len, d.boards.pairs.1);
    })
    c.deref_mut.ensures.value c.deref_mut-in-Some-Running-2.ensures.value c.deref_mut-in-Some-Running-3.ensures.value called.ensures r in
    let e : ◌≡◌ {A = Option Stage} (Some (Running c.in-Some-Running.instance)) d.stage = search rules in
    record {
      reply = p.0 ∙ subst (λ (v : Held g.row.R.Denot). (acts meaning h k c.in-Some-Running.instance).reply ≡ (on_instance v (acts meaning v k) v.stage).reply) c.self.view_is (ap (λ s. (on_instance h (acts meaning h k) s).reply) e);
      desk = same_held _ _ _ _ _ _ _ _ _ _ refl (take_at b'.values _ _ lv) (take_at b'.sent _ _ ls) (take_at b'.marks _ _ lm) refl ∙ p.1 ∙ subst (λ (v : Held g.row.R.Denot). (acts meaning h k c.in-Some-Running.instance).held ≡ (on_instance v (acts meaning v k) v.stage).held) c.self.view_is (ap (λ s. (on_instance h (acts meaning h k) s).held) e);
    }
