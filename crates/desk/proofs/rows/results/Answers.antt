use Rattle.std.proofs.lemmas.Result.{IfOk-from_err}
use Rattle.desk.proofs.Results.{begun_none, begun_more, begun_all, begun_to}
use Rattle.desk.proofs.rows.results.Goals as goal

pub loop-item-init : goal.loop-item-init
loop-item-init g c = begun_none c.args.outcome.now.table c.args.values.now c.requires c.args.node c.new-list.result.items c.new-list.ensures.items

pub loop-item-preserved : goal.loop-item-preserved
loop-item-preserved g c =
    begun_more c.args.outcome.now.table c.args.values.now c.requires c.args.node c.loop-item.item c.loop-item.list.items c.push.new.self.items c.in-Ok.decision
    c.loop-item.invariant c.in-Ok.ensures c.in_ok-push.ensures.items

pub returns-in_default : goal.returns-in_default
returns-in_default g c =
    begun_to c.args.outcome.now.table c.args.values.now c.requires c.args.node c.loop-item.list.items c.loop-item.item c.in_default.field-0
    c.loop-item.invariant c.in_default.ensures

pub returns : goal.returns
returns g c =
    begun_all c.args.outcome.now.table c.args.values.now c.requires c.args.node c.loop-item.list.items c.loop-item.item c.loop-item-test.false c.loop-item.invariant

pub returns-in_err-push : goal.returns-in_err-push
returns-in_err-push g c = IfOk-from_err c.from_residual.result _ c.from_residual.ensures.0
