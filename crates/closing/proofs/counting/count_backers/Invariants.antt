use Rattle.std.proofs.Common.{◌≡◌, ◌≤◌, take}
use Rattle.closing.specs.Counting.{backers}
use Rattle.closing.proofs.counting.count_backers.Given as goal

abbrev pub invariant-loop-node : goal.invariant-loop-node
invariant-loop-node g l =
    (l.count ≡ backers g.R.Reading.meaning (g.R.Reading.meaning l.sought) (take l.node (g.H.Hearing.cells l.heard)))
    × (l.count ≤ l.node)
