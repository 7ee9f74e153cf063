use Rattle.std.proofs.Common.{◌<◌, length, refl, rules, arith}
use Rattle.play.proofs.Pushes.{setup_none, setup_step, setup_end}
use Rattle.play.proofs.script.make_setup_calls.Goals as goal

pub loop-k-init : goal.loop-k-init
loop-k-init g c = setup_none (record { table = c.args.setup.now.table; values = c.args.values.now }) c.args.calls.now c.args.answers.now

pub offset_bounds-answers-k : goal.offset_bounds-answers-k
offset_bounds-answers-k g c = let h : c.loop-k.k < length c.args.answers.now = omega (arith, c.requires, c.loop-k-test.true) in search rules

pub loop-k-preserved : goal.loop-k-preserved
loop-k-preserved g c =
    setup_step (record { table = c.args.setup.now.table; values = c.args.values.now }) (record { table = c.loop-k.setup.table; values = c.loop-k.values })
    (record { table = c.apply_setup.new.setup.table; values = c.apply_setup.new.values }) c.args.calls.now c.loop-k.k c.args.answers.now c.loop-k.answers _
    c.apply_setup.result c.index-calls-k.result c.loop-k-test.true c.requires c.loop-k.auto.values c.index-calls-k.is c.apply_setup.ensures refl c.loop-k.invariant

pub returns : goal.returns
returns g c =
    let h = setup_end (record { table = c.args.setup.now.table; values = c.args.values.now }) (record { table = c.loop-k.setup.table; values = c.loop-k.values })
    c.args.calls.now c.loop-k.k c.args.answers.now c.loop-k.answers (omega arith) c.loop-k.invariant in
    record { setup = h.0; answers = h.1 }
