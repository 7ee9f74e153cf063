use Rattle.std.proofs.Common.{replicate, Ok, Option, sym, ap, ◌∙◌, arith}
use Rattle.std.proofs.lemmas.List.{length-take-le}
use Rattle.std.specs.Option.{ok_or}
use Rattle.refusal.specs.declared.Refusal.TheVariants.{StrangeReading}
use Rattle.lines.specs.Digits.{hex_octets_of}
use Rattle.lamphouse.proofs.HexLaws.{read_ok, front_of, few_of}
use Rattle.lamphouse.proofs.heard.octets_of.Goals as goal

pub slice_bounds-octets-end : goal.slice_bounds-octets-end
slice_bounds-octets-end c =
    let k = c.in_ok-count.count in
    let came = sym (read_ok c.hex_octets.result k StrangeReading c.in_ok-count.ensures.value) ∙ c.hex_octets.ensures.count in
    let few = few_of 100 k c.args.digits.now came in
    omega (arith, few, c.hex_octets.auto.out)

pub slice_bounds-from_slice-end : goal.slice_bounds-from_slice-end
slice_bounds-from_slice-end c =
    let k = c.in_ok-count.count in
    let came = sym (read_ok c.hex_octets.result k StrangeReading c.in_ok-count.ensures.value) ∙ c.hex_octets.ensures.count in
    let few = few_of 100 k c.args.digits.now came in
    sym (length-take-le k c.hex_octets.new.out (omega (arith, few, c.hex_octets.auto.out)))

pub returns : goal.returns
returns c =
    let k = c.in_ok-count.count in
    let o = hex_octets_of 100 c.args.digits.now in
    let came = sym (read_ok c.hex_octets.result k StrangeReading c.in_ok-count.ensures.value) ∙ c.hex_octets.ensures.count in
    ap Ok c.in_ok-from_slice.ensures.items
    ∙ sym (ap (λ (x : Option _). ok_or x StrangeReading) (front_of o (replicate 100 0) c.hex_octets.new.out k came c.hex_octets.ensures.places))
