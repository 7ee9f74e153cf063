use Rattle.std.proofs.Common.{◌≡◌, map, take}
use Rattle.std.specs.List.{range_with_len}
use Rattle.controller.specs.Strips.{entry_at}
use Rattle.controller.proofs.strips.read_entries.Given as goal

-- the entries so far
abbrev pub invariant-loop-i : goal.invariant-loop-i
invariant-loop-i l = take l.i l.entries ≡ map (entry_at l.octets) (range_with_len 0 l.i)
