use Rattle.std.proofs.Common.{◌≡◌, min, take}
use Rattle.lines.specs.Gathered.{gathered}
use Rattle.lines.proofs.gather.Line.gather.Given as goal

abbrev pub invariant-loop-octet : goal.invariant-loop-octet
invariant-loop-octet l =
    (l.line.limit ≡ min l.limit 200) × (l.line.octets ≡ gathered (min l.limit 200) (take l.octet-index l.octets))
