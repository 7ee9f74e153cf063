use Rattle.std.proofs.Common.{◌≡◌, length, take, drop, Some}
use Rattle.lines.proofs.Pairs.{pairs_octets}
use Rattle.lines.proofs.hex.hex_octets.Given as goal

-- the octets of the pairs so far are written, and what lies behind them is as before
abbrev pub invariant-loop-place : goal.invariant-loop-place
invariant-loop-place l =
    (pairs_octets (take l.place l.pairs) ≡ Some (take l.place l.out))
    × (drop l.place l.out ≡ drop l.place l.initial.out)
    × (length l.out ≡ length l.initial.out)
