use Rattle.std.proofs.Common.{◌≡◌, ℕ, ◌+◌, ◌-◌, ◌*◌, [], ◌∷◌, ◌++◌, map, length, set, None, Err, sym, ap, ◌∙◌, arith}
use Rattle.std.specs.List.{range_with_len}
use Rattle.std.specs.Result.{result_unwrap_or}
use Rattle.std.proofs.lemmas.List.FromFn.{map-range_with_len_more, length-map-range_with_len}
use Rattle.std.proofs.lemmas.List.{set_past}
use Rattle.wire.specs.Items.{cell_at, cells_fault, strange_at}
use Rattle.wire.specs.Messages.{cells_in}
use Rattle.wire.specs.Reads.{unless_fault}
use Rattle.wire.proofs.CellLaws.{rows_less, row_fits, faults_stop, faults_pass}
use Rattle.controller.specs.Places.{laid}
use Rattle.controller.proofs.PlaceLaws.{laid_none, laid_more}
use Rattle.controller.proofs.cells.read_cells.Goals as goal
use Rattle.controller.proofs.cells.read_cells.Goals.{then-i-cells, else-i-cells}

pub loop-i-init : goal.loop-i-init
loop-i-init g c = (ap (cells_fault g.R.Reading.WIDTH g.R.Reading.reads c.args.octets.now 0) (let z : c.args.count - 0 ≡ c.args.count = omega arith in z), laid_none c.args.cells.now)

pub read_cell-requires : goal.read_cell-requires
read_cell-requires g c =
    let i = c.loop-i.i in
    let s = g.R.Reading.WIDTH + 1 in
    omega (arith, row_fits i c.args.count s (length c.args.octets.now) c.loop-i-test.true c.requires, rows_less (i + 1) i s (omega arith))

pub overflow_add-result : goal.overflow_add-result
overflow_add-result g c =
    let i = c.loop-i.i in
    let s = g.R.Reading.WIDTH + 1 in
    let e : i * c.stride.result ≡ i * s = ap (λ n. i * n) c.stride.ensures in
    omega (arith, c.well_formed, row_fits i c.args.count s (length c.args.octets.now) c.loop-i-test.true c.requires)

pub returns-in-Err : goal.returns-in-Err
returns-in-Err g c =
    let i = c.loop-i.i in
    let k = c.args.count - i in
    let j = c.args.count - (i + 1) in
    let e : k ≡ j + 1 = omega arith in
    record {
      answer = ap (λ n. Err (strange_at c.in-Err.layer (5 + i * n))) c.stride.ensures
          ∙ ap (λ f. unless_fault f tt) (sym (faults_stop g.R.Reading.reads g.R.Reading.WIDTH k j i c.in-Err.layer c.args.octets.now e c.in-Err.ensures) ∙ c.loop-i.invariant.0);
      after = tt;
    }

pub loop-i-preserved : goal.loop-i-preserved
loop-i-preserved g c =
    let i = c.loop-i.i in
    let k = c.args.count - i in
    let j = c.args.count - (i + 1) in
    let e : k ≡ j + 1 = omega arith in
    let o = c.args.octets.now in
    let reads = g.R.Reading.reads in
    let w = g.R.Reading.WIDTH in
    let x = c.in-Ok.cell in
    let h = c.in-Ok.ensures in
    let f = λ (n : ℕ). result_unwrap_or (cell_at w reads o n) None in
    let v : x ≡ f i = ap (λ r. result_unwrap_or r None) h in
    let put : c.if-i-cells.cells ≡ set c.loop-i.cells i x =
    elim c.if-i-cells.branch [
      | then-i-cells b ↦ b.cells-is
      | else-i-cells b ↦ b.cells-is ∙ sym (set_past c.loop-i.cells i x (omega (arith, b.if-i-cells)))
    ] in (
      sym (faults_pass reads w k j i x o e h) ∙ c.loop-i.invariant.0,
      put
          ∙ ap (λ ys. set ys i x) c.loop-i.invariant.1
          ∙ laid_more (map f (range_with_len 0 i)) c.args.cells.now i x (length-map-range_with_len f 0 i)
          ∙ ap (λ y. laid (map f (range_with_len 0 i) ++ y ∷ []) c.args.cells.now) v
          ∙ ap (λ ys. laid ys c.args.cells.now) (sym (map-range_with_len_more f 0 i i (omega arith))),
    )

pub returns : goal.returns
returns g c =
    let i = c.loop-i.i in
    let n = c.args.count in
    let w = g.R.Reading.WIDTH in
    let reads = g.R.Reading.reads in
    let e : i ≡ n = omega arith in
    let z : n - i ≡ 0 = omega arith in
    record {
      answer = ap (λ f. unless_fault f tt) (ap (cells_fault w reads c.args.octets.now i) (sym z) ∙ c.loop-i.invariant.0);
      after = c.loop-i.invariant.1 ∙ ap (λ k. laid (cells_in w reads c.args.octets.now k) c.args.cells.now) e;
    }
