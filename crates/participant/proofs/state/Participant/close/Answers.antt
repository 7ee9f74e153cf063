use Rattle.std.proofs.Common.{◌≡◌, length, sym, refl, ap, ◌∙◌, subst, arith}
use Rattle.std.proofs.lemmas.List.{take_at}
use Rattle.coin.specs.Tosses.{strip_refusal}
use Rattle.participant.specs.Held.{Held}
use Rattle.participant.proofs.Same.{same_held}
use Rattle.participant.proofs.CallLaws.{Closes, then_held, closed, strip_entries}
use Rattle.participant.proofs.state.Participant.close.Goals as goal

pub returns : goal.returns
returns g c =
    let s = c.self.inside in
    let meaning = g.R.Reading.meaning in
    let called = c.close in
    let es = c.in_ok-strip.strip.entries.now in
    let same : es ≡ s.entries.items = strip_entries (strip_refusal (length c.deref.result.now)) es c.deref.result.now c.in_ok-strip.ensures ∙ c.deref.ensures.value in
    let h : Held g.row.R.Denot = record {
      node = s.node;
      world = record { state = s.instance; values = c.deref_mut.result.now; sent = c.deref-2.result.now; marks = c.deref_mut-3.result.now };
      strip = es;
    } in
    let lv : length called.new.values ≡ s.boards.values.len = omega (arith, called.auto.values, c.deref_mut.ensures.len) in
    let lm : length called.new.marks ≡ s.boards.marks.len = omega (arith, called.auto.marks, c.deref_mut-3.ensures.len) in
    let p = closed meaning h called.new.self called.new.values c.deref_mut-2.result.now called.new.scratch called.new.marks called.result
    (record {
      values = omega (arith, c.deref_mut.ensures.len, s.boards.cells.0);
      scratch = omega (arith, c.deref_mut-2.ensures.len, s.boards.cells.1);
      sent = omega (arith, c.deref-2.ensures.len, s.boards.pairs.0);
      marks = omega (arith, c.deref_mut-3.ensures.len, s.boards.pairs.1);
    })
    called.ensures in
    let e : h ≡ c.args.self.now = same_held s.node _ _ _ _ _ _ _ _ _ _ refl c.deref_mut.ensures.value c.deref-2.ensures.value c.deref_mut-3.ensures.value same ∙ c.self.view_is in
    let q = subst (λ x. Closes meaning x (then_held h called.new.self called.new.values h.world.sent called.new.marks) called.result) e p in
    record {
      answer = q.answer;
      held = same_held s.node _ _ _ _ _ _ _ _ _ _ refl (take_at called.new.values _ _ lv) (sym c.deref-2.ensures.value) (take_at called.new.marks _ _ lm) (sym same)
          ∙ q.held;
      room = record {
        values = ap length (take_at called.new.values _ _ lv) ∙ lv ∙ s.boards.cells.0;
        sent = sym s.boards.sent.ok.0 ∙ s.boards.pairs.0;
        marks = ap length (take_at called.new.marks _ _ lm) ∙ lm ∙ s.boards.pairs.1;
        some = omega (arith, c.self.invariant.0, s.entries.ok.0);
        few = omega (arith, c.self.invariant.1, s.entries.ok.0);
      };
    }
