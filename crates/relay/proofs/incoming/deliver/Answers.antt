use Rattle.std.proofs.Common.{◌≡◌, ◌<◌, ◌≤◌, true, false, length, Some, None, Ok, sym, ap, ◌∙◌, arith}
use Rattle.refusal.specs.declared.Refusal.TheVariants.{Short, StrangeReading, OutOfTurn}
use Rattle.refusal.specs.Refusals.{answered}
use Rattle.agreement.specs.Phases.{step_number}
use Rattle.wire.specs.Messages.{parts_of}
use Rattle.relay.specs.Deliveries.{calls_of, has_strange, deliver_refusal}
use Rattle.relay.proofs.Parts.{length_calls}
use Rattle.relay.proofs.Deliveries.{delivers_nothing, delivers_all, refused_short, refused_strange, refused_turn, refused_not}
use Rattle.relay.proofs.incoming.deliver.Goals as goal

pub returns-then-answers-count : goal.returns-then-answers-count
returns-then-answers-count g c =
    let w = g.R.Reading.WIDTH in
    let reads = g.R.Reading.reads in
    let p = parts_of c.args.message.now in
    let j = c.args.receiver in
    let s = c.args.instance.now in
    let calls = calls_of w reads j p in
    let old = c.args.answers.now in
    let o = deliver_refusal w reads j p s (length old) in
    let long = length_calls w reads j p p.front.letter in
    let h : length old < length calls = omega arith in
    let z : o ≡ Some Short = refused_short w reads j p s (length old) h in
    record {
      answer = sym (ap (λ x. answered x (length calls)) z);
      delivers = delivers_nothing g.R.Reading.meaning calls old s c.args.sent.now c.args.marks.now o Short z;
    }

pub returns-then-has_strange : goal.returns-then-has_strange
returns-then-has_strange g c =
    let w = g.R.Reading.WIDTH in
    let reads = g.R.Reading.reads in
    let p = parts_of c.args.message.now in
    let j = c.args.receiver in
    let s = c.args.instance.now in
    let calls = calls_of w reads j p in
    let old = c.args.answers.now in
    let o = deliver_refusal w reads j p s (length old) in
    let long = length_calls w reads j p p.front.letter in
    let room : length calls ≤ length old = omega arith in
    let told : has_strange w reads p ≡ true = sym c.if-has_strange.ensures in
    let z : o ≡ Some StrangeReading = refused_strange w reads j p s (length old) room told in
    record {
      answer = sym (ap (λ x. answered x (length calls)) z);
      delivers = delivers_nothing g.R.Reading.meaning calls old s c.args.sent.now c.args.marks.now o StrangeReading z;
    }

pub returns-then-step : goal.returns-then-step
returns-then-step g c =
    let w = g.R.Reading.WIDTH in
    let reads = g.R.Reading.reads in
    let p = parts_of c.args.message.now in
    let j = c.args.receiver in
    let s = c.args.instance.now in
    let calls = calls_of w reads j p in
    let old = c.args.answers.now in
    let o = deliver_refusal w reads j p s (length old) in
    let long = length_calls w reads j p p.front.letter in
    let room : length calls ≤ length old = omega arith in
    let told : has_strange w reads p ≡ false = sym c.if-has_strange.ensures in
    let other : (p.front.step ≡ step_number s → ⊥) = λ e. c.if-step.true (c.step.ensures ∙ e ∙ sym c.step-2.ensures) in
    let z : o ≡ Some OutOfTurn = refused_turn w reads j p s (length old) room told other in
    record {
      answer = sym (ap (λ x. answered x (length calls)) z);
      delivers = delivers_nothing g.R.Reading.meaning calls old s c.args.sent.now c.args.marks.now o OutOfTurn z;
    }

pub returns : goal.returns
returns g c =
    let w = g.R.Reading.WIDTH in
    let reads = g.R.Reading.reads in
    let p = parts_of c.args.message.now in
    let j = c.args.receiver in
    let s = c.args.instance.now in
    let calls = calls_of w reads j p in
    let old = c.args.answers.now in
    let o = deliver_refusal w reads j p s (length old) in
    let long = length_calls w reads j p p.front.letter in
    let room : length calls ≤ length old = omega arith in
    let told : has_strange w reads p ≡ false = sym c.if-has_strange.ensures in
    let turn : p.front.step ≡ step_number s = sym c.step.ensures ∙ c.if-step.false ∙ c.step-2.ensures in
    let z : o ≡ None = refused_not w reads j p s (length old) room told turn in
    let count : c.count_calls-count.result ≡ length calls = c.count_calls-count.ensures ∙ sym long in
    record {
      answer = ap (λ k. Ok k) count ∙ sym (ap (λ x. answered x (length calls)) z);
      delivers = delivers_all g.R.Reading.meaning calls old s c.args.sent.now c.args.marks.now
          c.send_all.new.instance c.send_all.new.sent c.send_all.new.marks c.send_all.new.answers o z c.send_all.ensures;
    }
