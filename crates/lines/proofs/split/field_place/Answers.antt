use Rattle.std.proofs.Common.{◌≡◌, ◌+◌, ◌∙◌, sym, ap, arith}
use Rattle.std.specs.Option.{option_map}
use Rattle.lines.specs.Fields.{fields, fields_left}
use Rattle.lines.specs.Walk.{to_come}
use Rattle.lines.proofs.Parting.{some_field, octets_in, octets_in_fields}
use Rattle.lines.proofs.Walking.{place_none, place_on, place_all}
use Rattle.lines.proofs.split.field_place.Goals as goal

pub loop-init : goal.loop-init
loop-init c =
    let fs = fields c.args.part c.args.line.now in (
      ap (λ xs. place_on 0 0 xs c.args.index) c.new-walk.ensures ∙ place_none fs c.args.index,
      (let z : 0 + octets_in (to_come c.new-walk.result) ≡ octets_in (to_come c.new-walk.result) = omega arith in z) ∙ ap octets_in c.new-walk.ensures ∙ octets_in_fields c.args.part c.args.line.now,
    )

pub returns : goal.returns
returns c =
    let walk = c.loop.walk in
    let left = fields walk.part c.in_ok-walk.field-0.now in
    let more : to_come walk ≡ left = ap (λ o. fields_left walk.part (option_map (λ r. r.now) o)) c.in_ok-walk.was in
    sym (place_all c.loop.place c.loop.counter c.args.index left (omega arith) (some_field walk.part c.in_ok-walk.field-0.now))
    ∙ ap (λ fs. place_on c.loop.place c.loop.counter fs c.args.index) (sym more) ∙ c.loop.invariant.0
