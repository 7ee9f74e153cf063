use Rattle.std.proofs.Common.{◌≡◌, ◌+◌, ◌≤◌, ◌++◌, length, drop, sym, refl, ap, ◌∙◌, arith}
use Rattle.wire.specs.Bits.{octets_for, bit_octets}
use Rattle.wire.specs.Messages.{bits_head, head_octets}
use Rattle.wire.specs.Writes.{room_check, write_answer}
use Rattle.wire.proofs.WriteLaws.{head_passed, room_passed, laid}
use Rattle.wire.proofs.write.write_bits.Goals as goal

pub returns : goal.returns
returns c =
    let h = c.with_letter-head.result in
    let q : h ≡ bits_head c.args.head = c.with_letter-head.ensures in
    let m = c.args.m in
    let out = c.args.out.now in
    let long = c.in_ok-long.long in
    let given = length c.args.bits.now in
    let count : given ≡ m = c.in_ok-check_head.ensures.small.1 in
    let room = c.in_ok-long.ensures.answer in
    let size = room_passed long (5 + c.count_octets.result) (length out) room in
    let five : 5 ≤ long = omega arith in
    let front = c.in_ok-long.ensures.after ∙ ap (λ k. head_octets h k ++ drop 5 out) (sym count) in
    record {
      answer =
          room
          ∙ ap (λ s. room_check (5 + s) (length out)) c.count_octets.ensures
          ∙ sym (head_passed h c.args.n m given tt _ (sym c.in_ok-check_head.ensures.answer))
          ∙ ap (λ x. write_answer x c.args.n m given (octets_for m) (length out)) q;
      after =
          laid out c.write_head.new.out (head_octets h given) c.write_bit_octets.new.out long front refl five
          ∙ ap (λ b. (head_octets h given ++ b) ++ drop long out) c.write_bit_octets.ensures
          ∙ ap (λ x. (head_octets x given ++ bit_octets c.args.bits.now) ++ drop long out) q;
    }
