use Rattle.std.proofs.Common.{◌<◌, [], ◌∷◌, ◌++◌, length, sym, ap, ◌∙◌, arith}
use Rattle.std.proofs.lemmas.List.{take_more_set}
use Rattle.wire.specs.Bits.{bit_number}
use Rattle.wire.specs.Messages.{parts_of}
use Rattle.controller.specs.Reads.{flags}
use Rattle.controller.proofs.ReadLaws.{flags_more, bit_there}
use Rattle.controller.proofs.read.fill_flags.Goals as goal

pub loop-i-preserved : goal.loop-i-preserved
loop-i-preserved c =
    let i = c.loop-i.i in
    let p = parts_of c.args.message.now in
    let x = c.from.result in
    let l : i < length c.loop-i.items = omega (arith, c.loop-i.auto.items) in
    let h : i < p.count = omega (arith, c.requires.room) in
    let b = bit_there p i c.in-Ok.bit c.in-Ok.ensures c.requires.bits h c.requires.body in
    take_more_set c.loop-i.items i x l
    ∙ ap (λ ys. ys ++ x ∷ []) c.loop-i.invariant
    ∙ ap (λ y. flags p.rest i ++ y ∷ []) (c.from.ensures ∙ ap bit_number b)
    ∙ sym (flags_more p.rest i)
