use Rattle.std.proofs.Common.{◌<◌, length, Err, ap, ◌∙◌, arith}
use Rattle.wire.specs.Messages.{parts_of}
use Rattle.controller.specs.Reads.{items_octets}
use Rattle.controller.proofs.PlaceLaws.{short_placed}
use Rattle.controller.proofs.ReadLaws.{bits_long, short_items}
use Rattle.controller.proofs.read.write_flags.Goals as goal

pub returns-then-items-count : goal.returns-then-items-count
returns-then-items-count c =
    let p = parts_of c.args.message.now in
    let place = c.args.items.now in
    let h : length place < length (items_octets p) = omega (arith, bits_long p c.requires.bits, c.items-count.ensures.value) in
    record {
      answer = ap Err c.in_message.ensures ∙ short_items place p tt h;
      after = short_placed (length (items_octets p)) (items_octets p) place h;
    }
