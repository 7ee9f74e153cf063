use Rattle.std.proofs.Common.{◌∙◌}
use Rattle.controller.specs.Reads.{told_head, message_read}
use Rattle.controller.proofs.AnswerLaws.{told_ok, told_err}
use Rattle.controller.proofs.read.rilvatok_read_message.Goals as goal

pub returns-in-Ok : goal.returns-in-Ok
returns-in-Ok c =
    let r = message_read c.args.kind c.args.n c.args.m c.args.octets.now c.args.items.now in
    let t = told_ok told_head r c.in-Ok.said c.args.head.now c.args.fault.now c.in-Ok.ensures.answer in
    record { answer = t.0; head = t.1; items = c.read_by.ensures.after; fault = t.2 }

pub returns-in-Err : goal.returns-in-Err
returns-in-Err c =
    let r = message_read c.args.kind c.args.n c.args.m c.args.octets.now c.args.items.now in
    let t = told_err told_head r c.in-Err.found c.args.head.now c.args.fault.now c.in-Err.ensures.answer in
    record { answer = c.tell.ensures.answer ∙ t.0; head = t.1; items = c.read_by.ensures.after; fault = c.tell.ensures.after ∙ t.2 }
