use Rattle.std.proofs.Common.{◌≡◌, take}
use Rattle.wire.specs.Bits.{octet_of}
use Rattle.wire.proofs.bits.pack.Given as goal

-- the bits so far are packed
abbrev pub invariant-loop-i : goal.invariant-loop-i
invariant-loop-i l = l.octet ≡ octet_of (take l.i l.bits)
