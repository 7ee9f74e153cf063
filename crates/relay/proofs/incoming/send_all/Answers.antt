use Rattle.std.proofs.Common.{◌≡◌, ◌<◌, ◌≤◌, length, take, refl, arith}
use Rattle.std.proofs.lemmas.List.{length-take}
use Rattle.law.specs.declared.calls.Call.TheVariants.{SendFinal}
use Rattle.wire.specs.Messages.{parts_of}
use Rattle.relay.specs.Deliveries.{calls_of, is_strange}
use Rattle.relay.proofs.Parts.{none_of_all, length_calls}
use Rattle.relay.proofs.Deliveries.{sent_none, sent_more, sent_all, front_sent}
use Rattle.relay.proofs.incoming.send_all.Goals as goal

pub loop-place-init : goal.loop-place-init
loop-place-init g c =
    sent_none g.R.Reading.meaning (calls_of g.R.Reading.WIDTH g.R.Reading.reads c.args.receiver (parts_of c.args.message.now)) (take c.count_calls.result c.args.answers.now)
    c.args.instance.now c.args.sent.now c.args.marks.now

pub send_part-requires : goal.send_part-requires
send_part-requires g c h =
    let p = parts_of c.args.message.now in
    none_of_all (is_strange g.R.Reading.WIDTH g.R.Reading.reads p) p.count c.loop-place.place c.requires.told h

pub loop-place-preserved : goal.loop-place-preserved
loop-place-preserved g c =
    let w = g.R.Reading.WIDTH in
    let reads = g.R.Reading.reads in
    let p = parts_of c.args.message.now in
    let j = c.args.receiver in
    let calls = calls_of w reads j p in
    let used = take c.count_calls.result c.args.answers.now in
    let long = length_calls w reads j p p.front.letter in
    let all : length used ≡ length calls = omega (arith, length-take c.count_calls.result c.args.answers.now, c.requires.room, c.count_calls.ensures) in
    let l : c.loop-place.place < length calls = omega (arith, c.loop-place-test.true, c.loop-place.auto.used) in
    let room : length calls ≤ length used = omega arith in
    sent_more g.R.Reading.meaning calls used
    c.args.instance.now c.args.sent.now c.args.marks.now c.loop-place.instance c.send_part.new.instance
    c.loop-place.sent c.send_part.new.sent c.loop-place.marks c.send_part.new.marks
    c.loop-place.place c.loop-place.used _ c.send_part.result (SendFinal p.front.node j)
    l room c.loop-place.auto.sent c.loop-place.auto.marks c.send_part.ensures refl c.loop-place.invariant

pub returns : goal.returns
returns g c =
    let w = g.R.Reading.WIDTH in
    let reads = g.R.Reading.reads in
    let p = parts_of c.args.message.now in
    let j = c.args.receiver in
    let calls = calls_of w reads j p in
    let n = c.count_calls.result in
    let old = c.args.answers.now in
    let long = length_calls w reads j p p.front.letter in
    let all : length (take n old) ≡ length calls = omega (arith, length-take n old, c.requires.room, c.count_calls.ensures) in
    let end : c.loop-place.place ≡ length calls = omega (arith, c.loop-place-test.false, c.loop-place.auto.place-end, c.loop-place.auto.used) in
    let count : n ≡ length calls = omega (arith, c.count_calls.ensures) in
    front_sent g.R.Reading.meaning calls c.args.instance.now c.loop-place.instance c.args.sent.now c.loop-place.sent c.args.marks.now c.loop-place.marks
    old c.loop-place.used n count
    (sent_all g.R.Reading.meaning calls (take n old) c.args.instance.now c.args.sent.now c.args.marks.now
    c.loop-place.instance c.loop-place.sent c.loop-place.marks c.loop-place.place c.loop-place.used end c.loop-place.invariant)
