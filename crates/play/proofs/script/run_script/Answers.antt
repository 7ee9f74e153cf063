use Rattle.play.specs.Lending.{lent}
use Rattle.play.proofs.Pushes.{script_ran}
use Rattle.play.proofs.script.run_script.Goals as goal

pub returns-clause-ran : goal.returns-clause-ran
returns-clause-ran g c =
    script_ran g.R.Reading.meaning (g.C.Coin.tosses c.args.coin.now) c.args.setup.table (lent c.args.boards.now) (lent c.make_calls.new.boards)
    c.args.first.now c.args.next.now c.args.answers.now c.split_at_mut-early.result.0.now c.split_at_mut-early.result.1.now c.make_setup_calls.new.answers c.make_calls.new.answers
    (record { table = c.make_setup_calls.new.setup.table; values = c.make_setup_calls.new.values }) c.open-instance.result c.make_calls.new.instance
    c.make_setup_calls.ensures.setup c.make_setup_calls.ensures.answers c.split_at_mut-early.ensures.front_len c.split_at_mut-early.ensures.back
    c.open-instance.ensures c.make_setup_calls.auto.values c.make_calls.ensures.world c.make_calls.ensures.answers c.make_calls.ensures.rest
