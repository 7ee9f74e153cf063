use Rattle.std.proofs.Common.{◌≡◌, ◌-◌}
use Rattle.wire.specs.Items.{cells_fault}
use Rattle.wire.specs.Messages.{cells_in}
use Rattle.controller.specs.Places.{laid}
use Rattle.controller.proofs.cells.read_cells.Given as goal

-- what is left has the fault that all have, and the cells that were read are laid at the front
abbrev pub invariant-loop-i : goal.invariant-loop-i
invariant-loop-i g l =
    (cells_fault g.R.Reading.WIDTH g.R.Reading.reads l.octets l.i (l.count - l.i)
    ≡ cells_fault g.R.Reading.WIDTH g.R.Reading.reads l.octets 0 l.count)
    × (l.cells ≡ laid (cells_in g.R.Reading.WIDTH g.R.Reading.reads l.octets l.i) l.initial.cells)
