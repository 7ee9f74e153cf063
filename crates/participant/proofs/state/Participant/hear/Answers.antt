use Rattle.std.proofs.Common.{◌≡◌, ℕ, length, sym, refl, ap, ◌∙◌, subst, arith}
use Rattle.std.proofs.lemmas.List.{take_at}
use Rattle.wire.specs.Messages.{parts_of}
use Rattle.wire.specs.Reads.{read_answer}
use Rattle.participant.specs.Held.{Held}
use Rattle.participant.specs.Participants.{heard_parts}
use Rattle.participant.proofs.Same.{same_held}
use Rattle.participant.proofs.CallLaws.{Hears, then_held, heard}
use Rattle.participant.proofs.state.Participant.hear.Goals as goal

pub returns : goal.returns
returns g c =
    let s = c.self.inside in
    let meaning = g.R.Reading.meaning in
    let w = g.R.Reading.WIDTH in
    let reads = g.R.Reading.reads in
    let o = c.args.octets.now in
    let called = c.deliver in
    let old = c.args.answers.now in
    let h : Held g.row.R.Denot = record {
      node = s.node;
      world = record { state = s.instance; values = s.boards.values.items; sent = c.deref_mut.result.now; marks = c.deref_mut-2.result.now };
      strip = s.entries.items;
    } in
    let ls : length called.new.sent ≡ s.boards.sent.len = omega (arith, called.auto.sent, c.deref_mut.ensures.len) in
    let lm : length called.new.marks ≡ s.boards.marks.len = omega (arith, called.auto.marks, c.deref_mut-2.ensures.len) in
    let q = c.in_ok-message.ensures.answer
    ∙ ap (λ (k : ℕ). read_answer w reads k c.items-m.result o) c.nodes-n.ensures
    ∙ ap (λ (k : ℕ). read_answer w reads s.instance.table.n k o) c.items-m.ensures in
    let p = heard meaning w reads h (parts_of c.in_ok-message.message) (heard_parts w reads h o) called.new.instance called.new.sent called.new.marks old called.new.answers called.result
    (omega (arith, s.boards.values.ok.0, s.boards.cells.0)) (omega (arith, c.deref_mut.ensures.len, s.boards.pairs.0)) (omega (arith, c.deref_mut-2.ensures.len, s.boards.pairs.1))
    q called.ensures.answer called.ensures.delivers in
    let e : h ≡ c.args.self.now = same_held s.node _ _ _ _ _ _ _ _ _ _ refl refl c.deref_mut.ensures.value c.deref_mut-2.ensures.value refl ∙ c.self.view_is in
    let x = subst (λ y. Hears meaning w reads y (then_held h called.new.instance h.world.values called.new.sent called.new.marks) (heard_parts w reads y o) old called.new.answers called.result) e p in
    record {
      answer = x.answer;
      held = same_held s.node _ _ _ _ _ _ _ _ _ _ refl refl (take_at called.new.sent _ _ ls) (take_at called.new.marks _ _ lm) refl ∙ x.held;
      answers = x.said;
      room = record {
        values = sym s.boards.values.ok.0 ∙ s.boards.cells.0;
        sent = ap length (take_at called.new.sent _ _ ls) ∙ ls ∙ s.boards.pairs.0;
        marks = ap length (take_at called.new.marks _ _ lm) ∙ lm ∙ s.boards.pairs.1;
        some = omega (arith, c.self.invariant.0, s.entries.ok.0);
        few = omega (arith, c.self.invariant.1, s.entries.ok.0);
      };
    }
