use Rattle.std.proofs.Common.{◌≡◌, not, take, count_by, sym, ◌∙◌, arith, rules}
use Rattle.std.proofs.iter.runs.Made.{chains}
use Rattle.board.proofs.Rows.{faulty_none, honest_open}
use Rattle.board.proofs.states.Node.count_undecided.Goals as goal

pub returns-then-self-clause-is : goal.returns-then-self-clause-is
returns-then-self-clause-is c = sym (faulty_none c.args.self.now c.args.items (search rules))

pub returns-clause-is : goal.returns-clause-is
returns-clause-is c =
    let x = c.args.self.now in
    let e : c.count.result ≡ count_by not (take c.args.items x.decided) = search (rules, chains) in
    e ∙ sym (honest_open x c.args.items (search rules) (omega arith))
