use Rattle.std.proofs.Common.{◌≡◌, None, refl, rules}
use Rattle.board.specs.Tables.{with_node}
use Rattle.board.proofs.Paths.{table_path, when_accepted}
use Rattle.agreement.specs.Setups.{mark_faulty_refusal, marked}
use Rattle.agreement.proofs.states.Setup.mark_faulty.Goals as goal

pub returns-clause-state : goal.returns-clause-state
returns-clause-state c =
    let t = c.args.self.now.table in
    let k = mark_faulty_refusal t c.args.node in
    let z : k ≡ None = search rules in
    when_accepted k _ _ _ z (table_path _ (with_node t c.args.node marked) refl refl refl)
