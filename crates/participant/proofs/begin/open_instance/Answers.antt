use Rattle.std.proofs.Common.{◌≡◌, Ok, Err, Result, sym, subst, rules}
use Rattle.refusal.specs.declared.Refusal.{Refusal}
use Rattle.agreement.specs.declared.states.Instance.{Instance}
use Rattle.participant.specs.Participants.{size_refusal, Opens}
use Rattle.participant.proofs.BeginLaws.{instance_opened, instance_refused}
use Rattle.participant.proofs.begin.open_instance.Goals as goal

pub returns : goal.returns
returns g c =
    let told = c.in_ok-setup.ensures in
    subst (λ (x : Instance). Opens c.args.n c.args.m c.args.node c.args.cells.now (size_refusal c.args.n c.args.m) c.propose_cells.new.values c.new.new.marks (Ok x)) (sym c.open.ensures)
    (instance_opened c.args.n c.args.m c.args.node c.args.cells.now c.args.values.now c.args.marks.now c.requires.0 c.requires.1
    c.in_ok-setup.setup c.mark_others.new.setup c.propose_cells.new.setup c.new.new.values c.mark_others.new.values c.propose_cells.new.values c.new.new.marks
    told.answer told.values told.marks c.mark_others.ensures c.propose_cells.ensures)

pub returns-in_err-setup : goal.returns-in_err-setup
returns-in_err-setup g c =
    let e = c.in_err-setup.field-0.0 in
    let r : c.from_residual.result ≡ Err e = search rules in
    subst (λ (x : Result Instance Refusal). Opens c.args.n c.args.m c.args.node c.args.cells.now (size_refusal c.args.n c.args.m) c.new.new.values c.new.new.marks x) (sym r)
    (instance_refused c.args.n c.args.m c.args.node c.args.cells.now c.args.values.now c.args.marks.now c.requires.0 c.requires.1
    e c.new.new.values c.new.new.marks c.in_err-setup.ensures.answer)
