use Rattle.std.proofs.Common.{◌≡◌, ◌-◌}
use Rattle.wire.specs.Items.{cells_fault}
use Rattle.wire.proofs.items.check_cells.Given as goal

-- what is left has the fault that the body has
abbrev pub invariant-loop-i : goal.invariant-loop-i
invariant-loop-i g l =
    cells_fault g.R.Reading.WIDTH g.R.Reading.reads l.body l.i (l.items - l.i)
    ≡ cells_fault g.R.Reading.WIDTH g.R.Reading.reads l.body 0 l.items
