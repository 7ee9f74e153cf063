use Rattle.std.proofs.Common.{◌≡◌, ◌≤◌, true, false, take}
use Rattle.closing.specs.Counting.{votes}
use Rattle.closing.proofs.counting.count_votes.Given as goal

abbrev pub invariant-loop-node : goal.invariant-loop-node
invariant-loop-node g l =
    (l.zeros ≡ votes false (take l.node (g.H.Hearing.marks l.heard)))
    × (l.ones ≡ votes true (take l.node (g.H.Hearing.marks l.heard)))
    × (l.zeros ≤ l.node)
    × (l.ones ≤ l.node)
