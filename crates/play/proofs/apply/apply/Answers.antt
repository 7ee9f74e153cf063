use Rattle.play.proofs.Counts.{close_rest}
use Rattle.play.proofs.apply.apply.Goals as goal

pub returns-in-Close-clause-rest : goal.returns-in-Close-clause-rest
returns-in-Close-clause-rest g c =
    close_rest g.R.Reading.meaning (g.C.Coin.tosses c.args.coin.now) c.args.instance.now c.close.new.self
    c.args.boards.now.values.now c.close.new.values c.args.boards.now.scratch.now c.close.new.scratch c.args.boards.now.sent.now c.args.boards.now.marks.now c.close.new.marks _ c.close.result c.close.ensures
