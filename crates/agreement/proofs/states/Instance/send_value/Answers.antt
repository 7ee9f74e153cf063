use Rattle.std.proofs.Common.{◌≡◌, not, Some, arith, rules}
use Rattle.closing.specs.Closings.{sends_cells}
use Rattle.board.proofs.Paths.{when_refused}
use Rattle.agreement.specs.Calls.{send_checks}
use Rattle.agreement.proofs.Paths.{value_on, refused_as}
use Rattle.agreement.proofs.states.Instance.send_value.Goals as goal

pub returns-in_err-check_send-clause-sent : goal.returns-in_err-check_send-clause-sent
returns-in_err-check_send-clause-sent g c =
    let s = c.args.self.now in
    let sent = c.args.sent.now in
    let marks = c.args.marks.now in
    let e = c.in_err-check_send.field-0.0 in
    let q : send_checks s marks (not (sends_cells s.phase)) c.args.sender c.args.receiver c.args.item ≡ Some e = refused_as _ e (search rules) in
    let z = value_on s sent marks c.args.sender c.args.receiver c.args.item (Some e) (omega (arith, c.marks_needed-needed.ensures)) (omega (arith, c.marks_needed-needed.ensures)) q in
    when_refused _ e _ _ _ z (search rules)

pub returns-in_err-check_send-clause-marks : goal.returns-in_err-check_send-clause-marks
returns-in_err-check_send-clause-marks g c =
    let s = c.args.self.now in
    let sent = c.args.sent.now in
    let marks = c.args.marks.now in
    let e = c.in_err-check_send.field-0.0 in
    let q : send_checks s marks (not (sends_cells s.phase)) c.args.sender c.args.receiver c.args.item ≡ Some e = refused_as _ e (search rules) in
    let z = value_on s sent marks c.args.sender c.args.receiver c.args.item (Some e) (omega (arith, c.marks_needed-needed.ensures)) (omega (arith, c.marks_needed-needed.ensures)) q in
    when_refused _ e _ _ _ z (search rules)
