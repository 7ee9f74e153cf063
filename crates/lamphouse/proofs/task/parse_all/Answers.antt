use Rattle.std.proofs.Common.{◌≡◌, ◌++◌, None, Err, Option, vec_items, sym, ap, ◌∙◌}
use Rattle.std.specs.Option.{ok_or}
use Rattle.refusal.specs.declared.Refusal.TheVariants.{StrangeReading}
use Rattle.lines.specs.Walk.{to_come}
use Rattle.lamphouse.specs.Grammar.{all_of}
use Rattle.lamphouse.proofs.AllLaws.{all_more, all_none, all_done}
use Rattle.lamphouse.proofs.HexLaws.{read_ok, read_err, read_why}
use Rattle.lamphouse.proofs.Enough.{enough_refused}
use Rattle.lamphouse.proofs.task.parse_all.Goals as goal

pub loop-field-preserved : goal.loop-field-preserved
loop-field-preserved g c =
    let x = c.in_ok-ok_or.field-0 in
    let read = read_ok c.parse.result x StrangeReading c.in_ok-ok_or.ensures.value in
    all_more g.T.Parse.parses (vec_items c.loop-field.list) (vec_items c.push.new.self) (to_come c.loop-field.field-iterator) (to_come c.next.new.self)
    c.in-Some.field.now x c.in-Some.ensures.field c.next.ensures.left (sym read ∙ c.parse.ensures) c.in_ok-push.ensures.items
    ∙ c.loop-field.invariant

pub returns-in_err-ok_or : goal.returns-in_err-ok_or
returns-in_err-ok_or g c =
    let e = c.in_err-ok_or.field-0.0 in
    let fs = to_come c.loop-field.field-iterator in
    let told = c.in_err-ok_or.ensures.value in
    let none : c.parse.result ≡ None = read_err c.parse.result e StrangeReading told in
    let whole = all_none g.T.Parse.parses fs c.in-Some.field.now (λ xs. vec_items c.loop-field.list ++ xs) (all_of g.T.Parse.parses (to_come c.args.walk))
    c.in-Some.ensures.field (sym c.parse.ensures ∙ none) c.loop-field.invariant in
    enough_refused c.from_residual.result e _ c.from_residual.ensures.1
    (ap Err (read_why c.parse.result e StrangeReading told) ∙ sym (ap (λ (o : Option _). ok_or o StrangeReading) whole))

pub returns : goal.returns
returns g c =
    let whole = all_done g.T.Parse.parses (vec_items c.loop-field.list) (to_come c.loop-field.field-iterator) (all_of g.T.Parse.parses (to_come c.args.walk))
    c.in-None.ensures.field c.loop-field.invariant in
    sym (ap (λ (o : Option _). ok_or o StrangeReading) whole)
