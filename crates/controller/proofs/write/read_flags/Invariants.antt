use Rattle.std.proofs.Common.{◌≡◌, take, drop}
use Rattle.controller.specs.Writes.{flags_fault, flag_bits}
use Rattle.controller.proofs.write.read_flags.Given as goal

-- what is left has the fault that all have, and the bits so far
abbrev pub invariant-loop-i : goal.invariant-loop-i
invariant-loop-i l = (flags_fault l.i (drop l.i l.items) ≡ flags_fault 0 l.items) × (take l.i l.bits ≡ flag_bits (take l.i l.items))
