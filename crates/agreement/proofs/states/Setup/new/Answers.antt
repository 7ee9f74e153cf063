use Rattle.std.proofs.Common.{length, Ok}
use Rattle.board.specs.Setups.{make_refusal}
use Rattle.agreement.proofs.Paths.{makes_setup}
use Rattle.agreement.proofs.states.Setup.new.Goals as goal

pub returns-clause-answer : goal.returns-clause-answer
returns-clause-answer g c =
    let k = make_refusal c.args.n c.args.m (length c.args.values.now) (length c.args.marks.now) in
    makes_setup c.args.n c.args.m k (Ok c.in_ok-table.table) c.in_ok-table.ensures.answer
