use Rattle.std.proofs.Common.{◌≡◌, ◌<◌, ◌≤◌, get_or, refl, sym, ap, ◌∙◌, arith, rules}
use Rattle.std.specs.Result.{result_map_both}
use mir.Val.{bool_byte}
use Rattle.law.specs.declared.calls.Call.TheVariants.{SendValue, SendBit, SendFinal}
use Rattle.law.specs.declared.calls.Told.TheVariants.{Done}
use Rattle.wire.specs.Messages.{parts_of, said}
use Rattle.relay.specs.Deliveries.{message_calls, call_at}
use Rattle.relay.proofs.Sends.{sent_as, value_sent, bit_sent, final_sent, bit_octet}
use Rattle.relay.proofs.Parts.{call_of_cell, call_of_bit, call_behind}
use Rattle.relay.proofs.incoming.send_part.Goals as goal

pub returns-then-place-items : goal.returns-then-place-items
returns-then-place-items g c =
    let w = g.R.Reading.WIDTH in
    let reads = g.R.Reading.reads in
    let p = parts_of c.args.message.now in
    let j = c.args.receiver in
    let k = c.args.place in
    let i = c.node-sender.result in
    let s = c.args.instance.now in
    let s' = c.send_final.new.self in
    let sent = c.args.sent.now in
    let marks = c.args.marks.now in
    let h : p.count ≤ k = omega arith in
    let told : c.map.result ≡ result_map_both (λ _. Done) (λ e. e) c.send_final.result = search rules in
    sent_as g.R.Reading.meaning s s' sent sent marks marks (SendFinal i j) (call_at w reads j p k) c.map.result
    (ap (λ x. SendFinal x j) c.node-sender.ensures ∙ sym (call_behind w reads j p p.front.letter k h))
    (final_sent g.R.Reading.meaning s s' sent sent marks marks c.send_final.result c.map.result i j told c.send_final.ensures.answer c.send_final.ensures.state refl refl)

pub returns-in_ok-cell-in-OfCells : goal.returns-in_ok-cell-in-OfCells
returns-in_ok-cell-in-OfCells g c =
    let w = g.R.Reading.WIDTH in
    let reads = g.R.Reading.reads in
    let p = parts_of c.args.message.now in
    let j = c.args.receiver in
    let k = c.args.place in
    let i = c.node-sender.result in
    let s = c.args.instance.now in
    let s' = c.send_value.new.self in
    let sent = c.args.sent.now in
    let marks = c.args.marks.now in
    let x = c.in_ok-cell-in-OfCells.cell in
    let l = c.in-OfCells.field-0 in
    let h : k < p.count = omega arith in
    let d = SendFinal p.front.node j in
    let told : c.map-in-OfCells.result ≡ result_map_both (λ _. Done) (λ e. e) c.send_value.result = search rules in
    let read = c.in_ok-cell-in-OfCells.ensures in
    sent_as g.R.Reading.meaning s s' sent c.send_value.new.sent marks c.send_value.new.marks (SendValue i j k x) (call_at w reads j p k) c.map-in-OfCells.result
    (ap (λ y. SendValue y j k x) c.node-sender.ensures ∙ sym (call_of_cell w reads j p l k x d h read)
    ∙ ap (λ u. get_or (message_calls j (said w reads p u)) k d) c.in-OfCells.ensures)
    (value_sent g.R.Reading.meaning s s' sent c.send_value.new.sent marks c.send_value.new.marks c.send_value.result c.map-in-OfCells.result i j k x
    told c.send_value.ensures.answer c.send_value.ensures.state c.send_value.ensures.sent c.send_value.ensures.marks)

pub returns-in_ok-bit-in-OfBits : goal.returns-in_ok-bit-in-OfBits
returns-in_ok-bit-in-OfBits g c =
    let w = g.R.Reading.WIDTH in
    let reads = g.R.Reading.reads in
    let p = parts_of c.args.message.now in
    let j = c.args.receiver in
    let k = c.args.place in
    let i = c.node-sender.result in
    let s = c.args.instance.now in
    let s' = c.send_bit.new.self in
    let sent = c.args.sent.now in
    let marks = c.args.marks.now in
    let b = c.in_ok-bit-in-OfBits.bit in
    let l = c.in-OfBits.field-0 in
    let h : k < p.count = omega arith in
    let d = SendFinal p.front.node j in
    let told : c.map-in-OfBits.result ≡ result_map_both (λ _. Done) (λ e. e) c.send_bit.result = search rules in
    let octet : c.from.result ≡ bool_byte b = search rules in
    let read = c.in_ok-bit-in-OfBits.ensures in
    sent_as g.R.Reading.meaning s s' sent sent marks c.send_bit.new.marks (SendBit i j k c.from.result) (call_at w reads j p k) c.map-in-OfBits.result
    (ap (λ y. SendBit y j k c.from.result) c.node-sender.ensures ∙ ap (λ y. SendBit p.front.node j k y) (octet ∙ bit_octet b)
    ∙ sym (call_of_bit w reads j p l k b d h read) ∙ ap (λ u. get_or (message_calls j (said w reads p u)) k d) c.in-OfBits.ensures)
    (bit_sent g.R.Reading.meaning s s' sent sent marks c.send_bit.new.marks c.send_bit.result c.map-in-OfBits.result i j k c.from.result
    told c.send_bit.ensures.answer c.send_bit.ensures.state refl c.send_bit.ensures.marks)
