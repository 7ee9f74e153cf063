use Rattle.std.proofs.Common.{◌≡◌, ◌+◌, length}
use Rattle.lines.specs.Fields.{fields, place_of}
use Rattle.lines.specs.Walk.{to_come}
use Rattle.lines.proofs.Walking.{place_on}
use Rattle.lines.proofs.Parting.{octets_in}
use Rattle.lines.proofs.split.field_place.Given as goal

-- the place of the field is that in what is to come, behind what has been walked
abbrev pub invariant-loop : goal.invariant-loop
invariant-loop l =
    (place_on l.place l.counter (to_come l.walk) l.index ≡ place_of (fields l.part l.line) l.index)
    × (l.place + octets_in (to_come l.walk) ≡ length l.line + 1)
