use Rattle.std.proofs.Common.{◌≡◌, take, Some, sym, ◌∙◌, arith, rules}
use Rattle.std.proofs.lemmas.List.{length-take-le}
use Rattle.std.specs.Option.{option_map}
use Rattle.refusal.specs.declared.Refusal.TheVariants.{StrangeReading}
use Rattle.lines.specs.Digits.{hex_octets_of}
use Rattle.lamphouse.proofs.HexLaws.{front_of, read_as, cell_read, few_of}
use Rattle.lamphouse.proofs.parse.OptionParse.parse.Goals as goal

pub slice_bounds-octets-end : goal.slice_bounds-octets-end
slice_bounds-octets-end g c =
    let few = few_of 8 c.in_ok-count.count c.args.field.now c.in_ok-count.ensures.count in
    omega (arith, few, c.hex_octets.auto.out)

pub slice_bounds-read-end : goal.slice_bounds-read-end
slice_bounds-read-end g c =
    let few = few_of 8 c.in_ok-count.count c.args.field.now c.in_ok-count.ensures.count in
    sym (length-take-le c.in_ok-count.count c.hex_octets.new.out (omega (arith, few, c.hex_octets.auto.out)))

pub returns : goal.returns
returns g c =
    let f = c.args.field.now in
    let k = c.in_ok-count.count in
    let out = c.hex_octets.new.out in
    let came = c.in_ok-count.ensures in
    let h = front_of (hex_octets_of 8 f) _ out k came.count came.places in
    let read = read_as (g.R.Reading.reads (take k out)) StrangeReading c.read.result c.ok.result c.read.ensures c.ok.ensures.value in
    let made : c.map.result ≡ option_map Some c.ok.result = search rules in
    made ∙ cell_read g.R.Reading.reads f out k c.ok.result c.if-dash.ensures h read
