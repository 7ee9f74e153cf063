use Rattle.std.proofs.Common.{◌≡◌, ◌+◌, ◌-◌, ◌<◌, ◌++◌, length, take, sym, ap, ◌∙◌, arith}
use Rattle.std.proofs.lemmas.List.{take_all, append-nil}
use Rattle.wire.specs.Bits.{packed}
use Rattle.wire.proofs.BitLaws.{packed_more}
use Rattle.wire.proofs.bits.write_bit_octets.Goals as goal

pub loop-octet-preserved : goal.loop-octet-preserved
loop-octet-preserved c =
    let k = length c.args.out.now - c.loop-octet.octet-index in
    let j = length c.args.out.now - (c.loop-octet.octet-index + 1) in
    let e : k ≡ j + 1 = omega arith in
    let l : c.loop-octet.octet-index < length c.loop-octet.out = omega arith in
    packed_more k j c.loop-octet.octet-index c.min.result c.pack.result c.loop-octet.out _ c.loop-octet.rest.now _ _ l e
    c.min.ensures c.split_at.ensures.front c.split_at.ensures.back c.pack.ensures c.loop-octet.invariant

pub returns : goal.returns
returns c =
    let z : length c.args.out.now - c.loop-octet.octet-index ≡ 0 = omega arith in
    sym (take_all c.loop-octet.octet-index c.loop-octet.out (omega arith))
    ∙ sym (append-nil (take c.loop-octet.octet-index c.loop-octet.out))
    ∙ ap (λ n. take c.loop-octet.octet-index c.loop-octet.out ++ packed n c.loop-octet.rest.now) (sym z)
    ∙ c.loop-octet.invariant
    ∙ ap (λ n. packed n c.args.bits.now) c.requires
