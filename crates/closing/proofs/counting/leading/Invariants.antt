use Rattle.std.proofs.Common.{◌≡◌, drop}
use Rattle.closing.specs.Counting.{first, backed, leading_of}
use Rattle.closing.proofs.counting.leading.Given as goal

abbrev pub invariant-loop-node : goal.invariant-loop-node
invariant-loop-node g l =
    first (backed g.R.Reading.meaning l.q (g.H.Hearing.cells l.heard)) (drop l.node (g.H.Hearing.cells l.heard))
    ≡ leading_of g.R.Reading.meaning l.q (g.H.Hearing.cells l.heard)
