use Rattle.std.proofs.Common.{◌≡◌, length, refl, ◌∙◌, arith}
use Rattle.std.proofs.lemmas.List.{take_at}
use Rattle.std.proofs.lemmas.Result.{err_from_is_err_and}
use Rattle.desk.proofs.Boards.{new_made, new_refused}
use Rattle.desk.proofs.stage.Desk.make.Goals as goal

pub returns : goal.returns
returns g c =
    let lv : length c.new-2.new.values ≡ c.in_ok-values.field-0.values.len = omega (arith, c.new-2.auto.values, c.deref_mut.ensures.len) in
    let lm : length c.new-2.new.marks ≡ c.in_ok-values.field-0.marks.len = omega (arith, c.new-2.auto.marks, c.deref_mut-2.ensures.len) in
    new_made c.args.n c.args.m c.deref_mut.result.now c.deref_mut-2.result.now
    (c.deref_mut.ensures.value ∙ c.in_ok-values.ensures.values) (c.deref_mut-2.ensures.value ∙ c.in_ok-values.ensures.marks)
    c.in_ok-setup.setup _ c.in_ok-setup.ensures.answer refl
    (take_at c.new-2.new.values _ _ lv ∙ c.in_ok-setup.ensures.values) c.in_ok-values.ensures.sent
    (take_at c.new-2.new.marks _ _ lm ∙ c.in_ok-setup.ensures.marks) refl

pub returns-in_err-setup : goal.returns-in_err-setup
returns-in_err-setup g c =
    let p = err_from_is_err_and c.from_residual-in_err-setup.result c.from_residual-in_err-setup.ensures.1 in
    rw (p.1, p.2) (new_refused c.args.n c.args.m c.deref_mut.result.now c.deref_mut-2.result.now
    (c.deref_mut.ensures.value ∙ c.in_ok-values.ensures.values) (c.deref_mut-2.ensures.value ∙ c.in_ok-values.ensures.marks)
    c.in_err-setup.field-0.0 c.in_err-setup.ensures.answer)
