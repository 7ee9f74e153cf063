use Rattle.std.proofs.Common.{arith}
use Rattle.wire.proofs.BitLaws.{octet_more}
use Rattle.wire.proofs.bits.pack.Goals as goal

pub overflow_add-octet : goal.overflow_add-octet
overflow_add-octet c =
    omega (arith, octet_more c.args.bits.now c.loop-i.i c.loop-i.octet c.from.result c.loop-i-test.true c.requires c.loop-i.invariant c.from.ensures)

pub loop-i-preserved : goal.loop-i-preserved
loop-i-preserved c =
    (octet_more c.args.bits.now c.loop-i.i c.loop-i.octet c.from.result c.loop-i-test.true c.requires c.loop-i.invariant c.from.ensures).0
