use Rattle.std.proofs.Common.{◌≡◌, ◌+◌, ◌-◌, ◌*◌, length, Err, sym, ap, ◌∙◌, arith}
use Rattle.wire.specs.Items.{strange_at}
use Rattle.wire.specs.Reads.{unless_fault}
use Rattle.wire.proofs.CellLaws.{rows_less, row_fits, faults_stop, faults_pass}
use Rattle.wire.proofs.items.check_cells.Goals as goal

pub read_cell-requires : goal.read_cell-requires
read_cell-requires g c =
    let i = c.loop-i.i in
    let s = g.R.Reading.WIDTH + 1 in
    omega (arith, row_fits i c.args.items s (length c.args.body.now) c.loop-i-test.true c.requires, rows_less (i + 1) i s (omega arith))

pub returns-in-Err : goal.returns-in-Err
returns-in-Err g c =
    let i = c.loop-i.i in
    let k = c.args.items - i in
    let j = c.args.items - (i + 1) in
    let e : k ≡ j + 1 = omega arith in
    ap (λ n. Err (strange_at c.in-Err.layer (5 + i * n))) c.stride.ensures
    ∙ sym (ap (λ f. unless_fault f tt) (faults_stop g.R.Reading.reads g.R.Reading.WIDTH k j i c.in-Err.layer c.args.body.now e c.in-Err.ensures))
    ∙ ap (λ f. unless_fault f tt) c.loop-i.invariant

pub loop-i-preserved : goal.loop-i-preserved
loop-i-preserved g c =
    let i = c.loop-i.i in
    let k = c.args.items - i in
    let j = c.args.items - (i + 1) in
    let e : k ≡ j + 1 = omega arith in
    sym (faults_pass g.R.Reading.reads g.R.Reading.WIDTH k j i c.in_default.field-0 c.args.body.now e c.in_default.ensures)
    ∙ c.loop-i.invariant
