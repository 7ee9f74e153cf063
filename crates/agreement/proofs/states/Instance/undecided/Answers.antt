use Rattle.std.proofs.Common.{◌≡◌, length, None, rules}
use Rattle.board.proofs.Entries.{listed, when_listed}
use Rattle.agreement.specs.Calls.{undecided_refusal}
use Rattle.agreement.proofs.states.Instance.undecided.Goals as goal

pub returns-clause-list : goal.returns-clause-list
returns-clause-list c =
    let t = c.args.self.now.table in
    let k = undecided_refusal t (length c.args.list.now) in
    let z : k ≡ None = search rules in
    when_listed t k _ _ z (listed t _ _ c.list_undecided.ensures)
