use Rattle.std.proofs.Common.{◌≡◌, ◌+◌, ◌-◌, ◌<◌, ◌≤◌, ◌++◌, length, ◌∙◌, arith}
use Rattle.std.proofs.lemmas.List.{length-append}
use Rattle.wire.specs.Items.{cell_octets}
use Rattle.wire.proofs.CellLaws.{cell_long}
use Rattle.controller.proofs.PlaceLaws.{put_behind, short_room, short_placed, enough_room, enough_placed}
use Rattle.controller.proofs.close.write_value.Goals as goal

pub returns-then-place-stride : goal.returns-then-place-stride
returns-then-place-stride g c =
    let o = cell_octets g.R.Reading.WIDTH g.R.Reading.octets c.args.value.now in
    let p = c.args.place.now in
    let m = c.args.more.now in
    let l = cell_long g.R.Reading.WIDTH g.R.Reading.octets g.met.R.Reading.long c.args.value.now in
    let h : length p < length (o ++ m) = omega (arith, length-append o m, c.stride-stride.ensures) in
    record { answer = short_room (length (o ++ m)) p tt h; after = short_placed (length (o ++ m)) (o ++ m) p h }

pub returns-then-place-stride-2 : goal.returns-then-place-stride-2
returns-then-place-stride-2 g c =
    let o = cell_octets g.R.Reading.WIDTH g.R.Reading.octets c.args.value.now in
    let p = c.args.place.now in
    let m = c.args.more.now in
    let l = cell_long g.R.Reading.WIDTH g.R.Reading.octets g.met.R.Reading.long c.args.value.now in
    let h : length p < length (o ++ m) = omega (arith, length-append o m, c.stride-stride.ensures) in
    record { answer = short_room (length (o ++ m)) p tt h; after = short_placed (length (o ++ m)) (o ++ m) p h }

pub returns : goal.returns
returns g c =
    let o = cell_octets g.R.Reading.WIDTH g.R.Reading.octets c.args.value.now in
    let p = c.args.place.now in
    let m = c.args.more.now in
    let s = c.stride-stride.result in
    let l = cell_long g.R.Reading.WIDTH g.R.Reading.octets g.met.R.Reading.long c.args.value.now in
    let e : length o ≡ s = omega (arith, c.stride-stride.ensures) in
    let r : s + length m ≤ length p = omega arith in
    let h : length (o ++ m) ≤ length p = omega (arith, length-append o m) in
    let k : s + length m - s ≡ length m = omega arith in
    record {
      answer = enough_room (length (o ++ m)) p tt h;
      after = put_behind o m p c.write_cell.new.out c.copy_from_slice.new.self s (s + length m - s) e k c.write_cell.ensures c.copy_from_slice.ensures.after
          ∙ enough_placed (o ++ m) p h;
    }
