use Rattle.std.proofs.Common.{◌≡◌, ◌-◌, ◌++◌, length, take}
use Rattle.wire.specs.Bits.{packed}
use Rattle.wire.proofs.bits.write_bit_octets.Given as goal

-- what is written and what is to come are the whole
abbrev pub invariant-loop-octet : goal.invariant-loop-octet
invariant-loop-octet l =
    take l.octet-index l.out ++ packed (length l.initial.out - l.octet-index) l.rest ≡ packed (length l.initial.out) l.bits
