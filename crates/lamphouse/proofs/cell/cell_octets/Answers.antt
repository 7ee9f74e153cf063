use Rattle.std.proofs.Common.{◌≤◌, length, Option, sym, ap, ◌∙◌, arith}
use Rattle.lamphouse.specs.Texts.{text_octets}
use Rattle.lamphouse.proofs.HexLaws.{front_placed}
use Rattle.lamphouse.proofs.cell.cell_octets.Goals as goal

pub returns : goal.returns
returns g c =
    let octets = g.R.Reading.octets in
    let r = c.in-Some.reading in
    let room : g.R.Reading.WIDTH ≤ length c.args.place.now = omega (arith, g.met.R.Reading.narrow.1, c.told-place) in
    front_placed (octets r) c.args.place.now c.write.new.out g.R.Reading.WIDTH c.WIDTH.result (g.met.R.Reading.long r) c.WIDTH.ensures room c.write.ensures.after
    ∙ sym (ap (λ (x : Option _). text_octets octets x) c.in-Some.is)
