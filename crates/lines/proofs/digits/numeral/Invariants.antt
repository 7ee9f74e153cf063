use Rattle.std.proofs.Common.{◌≡◌, ◌^◌, ◌<◌, drop}
use Rattle.lines.specs.Digits.{read_on}
use Rattle.lines.proofs.digits.numeral.Given as goal

abbrev pub invariant-loop-octet : goal.invariant-loop-octet
invariant-loop-octet l =
    (read_on l.base l.value (drop l.octet-index l.field) ≡ read_on l.base 0 l.field)
    × (l.value < l.base ^ l.octet-index)
