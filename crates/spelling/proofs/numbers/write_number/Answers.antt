use Rattle.std.proofs.Common.{◌≤◌, arith, length-set}
use Rattle.spelling.specs.DigitLaws.{place_left, rest_below, digits_step, digits_first}
use Rattle.spelling.proofs.WriteLaws.{wrote_slice}
use Rattle.spelling.proofs.numbers.write_number.Goals as goal

pub loop-rest-preserved : goal.loop-rest-preserved
loop-rest-preserved c =
    let p = c.loop-rest.place in
    let n = c.loop-rest.rest in
    let left : 1 ≤ p = place_left p n (omega arith) c.loop-rest.invariant.2 in (
      omega arith,
      omega arith,
      rest_below p n left c.loop-rest.invariant.2,
      simp length-set (omega arith),
      digits_step n p c.loop-rest.octets _ (omega arith) (omega arith) left (omega arith) c.loop-rest.invariant.4,
    )

pub returns : goal.returns
returns c =
    let all = digits_first c.loop-rest.rest c.loop-rest.place 20 c.loop-rest.octets _ (omega arith) (omega arith) (omega arith) c.loop-rest.invariant.4 in
    wrote_slice c.extend_from_slice.result _ _ _ _ c.extend_from_slice.ensures.items all
