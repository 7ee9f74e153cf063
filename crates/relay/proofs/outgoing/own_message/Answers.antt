use Rattle.std.proofs.Common.{◌≡◌, ℕ, ◌≤◌, ◌&&◌, leb, length, Some, Ok, Err, sym, refl, ap, ◌∙◌, inl, inr, arith, rules}
use Rattle.refusal.specs.declared.Refusal.TheVariants.{Short, Over}
use Rattle.refusal.specs.Refusals.{answered}
use Rattle.board.proofs.Paths.{when_accepted, when_refused}
use Rattle.relay.specs.Own.{own_octets, own_refusal}
use Rattle.relay.proofs.Own.{row_long, refused_short, refused_node, row_within, refused_over, whole_written}
use Rattle.relay.proofs.outgoing.own_message.Goals as goal

pub returns-then-values-n : goal.returns-then-values-n
returns-then-values-n g c =
    let w = g.R.Reading.WIDTH in
    let octets = g.R.Reading.octets in
    let z : own_refusal w octets c.args.instance.now c.args.values.now c.args.node c.args.place.now ≡ Some Short = refused_short w octets g.met.R.Reading.long c.args.instance.now c.args.values.now c.args.node c.args.place.now c.nodes-n.result c.items-m.result c.step-step.result
    c.message_length-long.result c.own_letter-letter.result c.nodes-n.ensures c.items-m.ensures c.step-step.ensures c.own_letter-letter.ensures c.message_length-long.ensures
    (elim c.then-values-n.either [ inl a ↦ inl a | inr b ↦ inr b.1 ]) in
    record {
      answer = sym (ap (λ x. answered x (length (own_octets w octets c.args.instance.now c.args.values.now c.args.node))) z);
      place = when_refused (own_refusal w octets c.args.instance.now c.args.values.now c.args.node c.args.place.now) Short _ _ _ z refl;
    }

pub returns-in_err-bits : goal.returns-in_err-bits
returns-in_err-bits g c =
    let w = g.R.Reading.WIDTH in
    let octets = g.R.Reading.octets in
    let e = c.in_err-bits.field-0.0 in
    let z : own_refusal w octets c.args.instance.now c.args.values.now c.args.node c.args.place.now ≡ Some e = refused_node w octets g.met.R.Reading.long c.args.instance.now c.args.values.now c.args.node c.args.place.now c.nodes-n.result c.items-m.result c.step-step.result
    c.message_length-long.result c.own_letter-letter.result c.nodes-n.ensures c.items-m.ensures c.step-step.ensures c.own_letter-letter.ensures c.message_length-long.ensures
    c.if-values-n.false c.if-place-long.false e c.in_err-bits.ensures in
    let r : c.from_residual.result ≡ Err e = search rules in
    record {
      answer = r ∙ sym (ap (λ x. answered x (length (own_octets w octets c.args.instance.now c.args.values.now c.args.node))) z);
      place = when_refused (own_refusal w octets c.args.instance.now c.args.values.now c.args.node c.args.place.now) e _ _ _ z refl;
    }

pub returns-then-not-contains : goal.returns-then-not-contains
returns-then-not-contains g c =
    let w = g.R.Reading.WIDTH in
    let octets = g.R.Reading.octets in
    let turn : c.contains.result ≡ (leb 1 c.step-step.result && leb c.step-step.result 302) = search rules in
    let z : own_refusal w octets c.args.instance.now c.args.values.now c.args.node c.args.place.now ≡ Some Over = refused_over w octets g.met.R.Reading.long c.args.instance.now c.args.values.now c.args.node c.args.place.now c.nodes-n.result c.items-m.result c.step-step.result
    c.message_length-long.result c.own_letter-letter.result c.nodes-n.ensures c.items-m.ensures c.step-step.ensures c.own_letter-letter.ensures c.message_length-long.ensures
    c.if-values-n.false c.if-place-long.false c.in_ok-bits.bits c.in_ok-bits.ensures (sym turn ∙ c.if-not-contains.true) in
    record {
      answer = sym (ap (λ x. answered x (length (own_octets w octets c.args.instance.now c.args.values.now c.args.node))) z);
      place = when_refused (own_refusal w octets c.args.instance.now c.args.values.now c.args.node c.args.place.now) Over _ _ _ z refl;
    }

pub slice_bounds-cells-end-2 : goal.slice_bounds-cells-end-2
slice_bounds-cells-end-2 g c =
    let w = g.R.Reading.WIDTH in
    let octets = g.R.Reading.octets in
    row_long c.args.values.now _ c.items-m.result (row_within w octets g.met.R.Reading.long c.args.instance.now c.args.values.now c.args.node c.args.place.now c.nodes-n.result c.items-m.result c.step-step.result
    c.message_length-long.result c.own_letter-letter.result c.nodes-n.ensures c.items-m.ensures c.step-step.ensures c.own_letter-letter.ensures c.message_length-long.ensures
    c.if-values-n.false c.if-place-long.false c.in_ok-bits.bits c.in_ok-bits.ensures)

pub returns-in_err-write_own : goal.returns-in_err-write_own
returns-in_err-write_own g c =
    let w = g.R.Reading.WIDTH in
    let octets = g.R.Reading.octets in
    let few : c.items-m.result ≤ length c.in_ok-bits.bits = search rules in
    let turn : c.contains.result ≡ (leb 1 c.step-step.result && leb c.step-step.result 302) = search rules in
    let done = whole_written w octets g.met.R.Reading.long c.args.instance.now c.args.values.now c.args.node c.args.place.now c.nodes-n.result c.items-m.result c.step-step.result
    c.message_length-long.result c.own_letter-letter.result c.nodes-n.ensures c.items-m.ensures c.step-step.ensures c.own_letter-letter.ensures c.message_length-long.ensures
    c.if-values-n.false c.if-place-long.false c.in_ok-bits.bits c.in_ok-bits.ensures few (sym turn ∙ c.if-not-contains.false)
    c.write_own.new.place c.write_own.result c.write_own.ensures.answer c.write_own.ensures.after in
    let z : ◌≡◌ {A = ℕ} 0 1 = cc (done.1.answer, c.in_err-write_own.was) in
    absurd (omega arith)

pub returns : goal.returns
returns g c =
    let w = g.R.Reading.WIDTH in
    let octets = g.R.Reading.octets in
    let few : c.items-m.result ≤ length c.in_ok-bits.bits = search rules in
    let turn : c.contains.result ≡ (leb 1 c.step-step.result && leb c.step-step.result 302) = search rules in
    let done = whole_written w octets g.met.R.Reading.long c.args.instance.now c.args.values.now c.args.node c.args.place.now c.nodes-n.result c.items-m.result c.step-step.result
    c.message_length-long.result c.own_letter-letter.result c.nodes-n.ensures c.items-m.ensures c.step-step.ensures c.own_letter-letter.ensures c.message_length-long.ensures
    c.if-values-n.false c.if-place-long.false c.in_ok-bits.bits c.in_ok-bits.ensures few (sym turn ∙ c.if-not-contains.false)
    c.write_own.new.place c.write_own.result c.write_own.ensures.answer c.write_own.ensures.after in
    let k = length (own_octets w octets c.args.instance.now c.args.values.now c.args.node) in
    let same : c.in_ok-write_own.field-0 ≡ k = cc (done.1.answer, c.in_ok-write_own.was) in
    record {
      answer = ap (λ x. Ok x) same ∙ sym (ap (λ x. answered x k) done.0);
      place = when_accepted (own_refusal w octets c.args.instance.now c.args.values.now c.args.node c.args.place.now) _ _ _ done.0 done.1.after;
    }
