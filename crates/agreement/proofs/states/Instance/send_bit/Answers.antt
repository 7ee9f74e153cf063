use Rattle.std.proofs.Common.{◌≡◌, Some, rules}
use Rattle.board.proofs.Paths.{when_refused}
use Rattle.agreement.specs.Effects.{bit_refusal}
use Rattle.agreement.proofs.Paths.{refused_as}
use Rattle.agreement.proofs.states.Instance.send_bit.Goals as goal

pub returns-in_err-check_send-clause-marks : goal.returns-in_err-check_send-clause-marks
returns-in_err-check_send-clause-marks c =
    let s = c.args.self.now in
    let marks = c.args.marks.now in
    let e = c.in_err-check_send.field-0.0 in
    let k = bit_refusal s marks c.args.sender c.args.receiver c.args.item c.args.bit in
    let z : k ≡ Some e = refused_as k e (search rules) in
    when_refused k e _ _ _ z (search rules)
