use Rattle.std.proofs.Common.{◌≡◌, take}
use Rattle.wire.specs.Messages.{parts_of}
use Rattle.controller.specs.Reads.{flags}
use Rattle.controller.proofs.read.fill_flags.Given as goal

-- the octets so far
abbrev pub invariant-loop-i : goal.invariant-loop-i
invariant-loop-i l = take l.i l.items ≡ flags (parts_of l.message).rest l.i
