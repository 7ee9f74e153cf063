use Rattle.std.proofs.Common.{ℕ, List, length, ◌∙◌}
use Rattle.controller.specs.Writes.{message_written}
use Rattle.controller.proofs.AnswerLaws.{told_ok, told_err}
use Rattle.controller.proofs.write.rilvatok_write_message.Goals as goal

pub returns-in-Ok : goal.returns-in-Ok
returns-in-Ok c =
    let r = message_written c.args.kind c.args.n c.args.head.now c.args.items.now c.args.place.now in
    let t = told_ok (λ (o : List ℕ). length o) r c.in-Ok.count c.args.long.now c.args.fault.now c.in-Ok.ensures.answer in
    record { answer = t.0; place = c.write_by.ensures.after; long = t.1; fault = t.2 }

pub returns-in-Err : goal.returns-in-Err
returns-in-Err c =
    let r = message_written c.args.kind c.args.n c.args.head.now c.args.items.now c.args.place.now in
    let t = told_err (λ (o : List ℕ). length o) r c.in-Err.found c.args.long.now c.args.fault.now c.in-Err.ensures.answer in
    record { answer = c.tell.ensures.answer ∙ t.0; place = c.write_by.ensures.after; long = t.1; fault = c.tell.ensures.after ∙ t.2 }
