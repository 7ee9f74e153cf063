use Rattle.std.proofs.Common.{◌≡◌, length, arith}
use Rattle.rehearsal.proofs.Lawfully.{lent_lawful}
use Rattle.rehearsal.proofs.stage.perform.Goals as goal

pub returns : goal.returns
returns g c =
    let long : length c.play.new.answers ≡ c.in_ok-answers.answers.len =
    omega (arith, c.play.auto.answers, c.deref_mut-5.ensures.len) in
    lent_lawful g.R.Reading.meaning (g.C.Coin.tosses c.args.coin.now) c.args.script.now.n c.args.script.now.m
    c.deref.result.now c.args.script.now.setup.items c.deref-2.result.now c.args.script.now.calls.items
    _ _ _ _ c.play.new.answers _ _ _ c.in_ok-answers.answers.len
    c.deref.ensures.value c.deref-2.ensures.value long c.in_ok-play.ensures.answer c.in_ok-play.ensures.plays
