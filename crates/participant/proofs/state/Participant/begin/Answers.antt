use Rattle.std.proofs.Common.{◌≡◌, None, length, sym, refl, ap, ◌∙◌, arith}
use Rattle.std.proofs.lemmas.List.{take_at}
use Rattle.participant.specs.Participants.{begin_refusal}
use Rattle.participant.proofs.BeginLaws.{passed, strip_long, participant_begun}
use Rattle.participant.proofs.state.Participant.begin.Goals as goal

pub returns : goal.returns
returns g c =
    let lv : length c.open_instance.new.values ≡ c.in_ok-boards.boards.values.len = omega (arith, c.open_instance.auto.values, c.deref_mut.ensures.len) in
    let lm : length c.open_instance.new.marks ≡ c.in_ok-boards.boards.marks.len = omega (arith, c.open_instance.auto.marks, c.deref_mut-2.ensures.len) in
    let o = begin_refusal c.args.n c.args.m c.args.node (length c.args.entries.now) (length c.args.cells.now) in
    let e : None ≡ o = passed o _ _ c.in_ok-check_begin.ensures in
    let k = strip_long c.args.n c.args.m c.args.node (length c.args.entries.now) (length c.args.cells.now) e in
    let le = ap length c.in_ok-entries.ensures.items in
    record {
      begins = participant_begun c.args.n c.args.m c.args.node c.args.entries.now c.args.cells.now c.open_instance.new.values c.open_instance.new.marks _
          e c.in_ok-instance.ensures refl (take_at c.open_instance.new.values _ _ lv) c.in_ok-boards.ensures.sent
          (take_at c.open_instance.new.marks _ _ lm) c.in_ok-entries.ensures.items;
      room = record {
        values = ap length (take_at c.open_instance.new.values _ _ lv) ∙ lv ∙ c.in_ok-boards.boards.cells.0;
        sent = sym c.in_ok-boards.boards.sent.ok.0 ∙ c.in_ok-boards.boards.pairs.0;
        marks = ap length (take_at c.open_instance.new.marks _ _ lm) ∙ lm ∙ c.in_ok-boards.boards.pairs.1;
        some = omega (arith, le, k.0);
        few = omega (arith, le, k.1);
      };
    }
