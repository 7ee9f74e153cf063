use Rattle.std.proofs.Common.{◌≡◌, ◌+◌, ◌^◌, ◌<◌, ◌≤◌, ◌++◌, length, drop}
use Rattle.spelling.specs.Numbers.{digits}
use Rattle.spelling.proofs.numbers.write_number.Given as goal

abbrev pub invariant-loop-rest : goal.invariant-loop-rest
invariant-loop-rest l =
    (l.place < 20)
    × (l.rest ≤ l.number)
    × (l.rest < 10 ^ (l.place + 1))
    × (length l.octets ≡ 20)
    × (digits l.rest ++ drop (l.place + 1) l.octets ≡ digits l.number)

abbrev pub decreases-loop-rest : goal.decreases-loop-rest
decreases-loop-rest l = l.rest
