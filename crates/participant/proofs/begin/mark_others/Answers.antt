use Rattle.std.proofs.Common.{sym, ap, ◌∙◌, arith}
use Rattle.law.specs.declared.calls.SetupCall.TheVariants.{MarkFaulty}
use Rattle.law.specs.Runs.{Prepared, setup_run}
use Rattle.participant.specs.Participants.{faulty_moves}
use Rattle.participant.proofs.BeginLaws.{none_yet, one_more, same_node, other_node}
use Rattle.participant.proofs.begin.mark_others.Goals as goal

pub loop-other-init : goal.loop-other-init
loop-other-init g c = none_yet (record { table = c.args.setup.now.table; values = c.args.values.now })

pub loop-other-preserved-then-other-node : goal.loop-other-preserved-then-other-node
loop-other-preserved-then-other-node g c =
    let p₀ : Prepared g.row.R.Denot = record { table = c.args.setup.now.table; values = c.args.values.now } in
    c.loop-other.invariant ∙ ap (setup_run p₀) (sym (same_node c.loop-other.other c.args.node c.if-other-node.true))

pub loop-other-preserved : goal.loop-other-preserved
loop-other-preserved g c =
    let p₀ : Prepared g.row.R.Denot = record { table = c.args.setup.now.table; values = c.args.values.now } in
    let k = c.loop-other.other in
    one_more p₀ (record { table = c.loop-other.setup.table; values = c.loop-other.values }) (record { table = c.apply_setup.new.setup.table; values = c.apply_setup.new.values })
    (faulty_moves k c.args.node) (MarkFaulty k) c.apply_setup.result (omega (arith, c.loop-other.auto.values, c.requires)) c.loop-other.invariant c.apply_setup.ensures
    ∙ ap (setup_run p₀) (sym (other_node k c.args.node c.if-other-node.false))
