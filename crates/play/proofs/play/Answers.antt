use Rattle.std.proofs.Common.{◌≡◌, false}
use Rattle.play.specs.Lending.{lent}
use Rattle.play.specs.Played.{bad_sizes}
use Rattle.play.proofs.Endings.{script_played}
use Rattle.play.proofs.play.Goals as goal

pub returns-clause-plays : goal.returns-clause-plays
returns-clause-plays g c =
    let bad : bad_sizes c.args.n c.args.m ≡ false = cc in
    let e = c.in_ok-made.ensures in
    script_played g.R.Reading.meaning (g.C.Coin.tosses c.args.coin.now) c.args.n c.args.m c.args.setup.now c.args.calls.now
    (lent c.args.boards.now) (lent c.run_script.new.boards)
    c.new.new.values c.new.new.marks c.args.answers.now c.run_script.new.answers c.in_ok-made.made c.in_ok-count.count bad c.in_ok-count.ensures e.answer e.values e.marks c.run_script.ensures.ran
