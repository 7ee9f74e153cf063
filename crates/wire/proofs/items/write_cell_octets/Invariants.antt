use Rattle.std.proofs.Common.{◌≡◌, ◌+◌, ◌*◌, take}
use Rattle.std.specs.List.{flat_map}
use Rattle.wire.specs.Items.{cell_octets}
use Rattle.wire.proofs.items.write_cell_octets.Given as goal

-- the cells so far are written in front
abbrev pub invariant-loop-i : goal.invariant-loop-i
invariant-loop-i g l =
    take (l.i * (g.R.Reading.WIDTH + 1)) l.out ≡ flat_map (cell_octets g.R.Reading.WIDTH g.R.Reading.octets) (take l.i l.cells)
