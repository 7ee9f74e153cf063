use Rattle.std.proofs.Common.{◌≡◌, None, refl, rules}
use Rattle.board.specs.Tables.{with_node}
use Rattle.board.proofs.Paths.{when_accepted}
use Rattle.agreement.specs.Calls.{send_final_refusal, with_final}
use Rattle.agreement.proofs.Paths.{instance_path}
use Rattle.agreement.proofs.states.Instance.send_final.Goals as goal

pub returns-clause-state : goal.returns-clause-state
returns-clause-state c =
    let s = c.args.self.now in
    let k = send_final_refusal s c.args.sender c.args.receiver in
    let z : k ≡ None = search rules in
    when_accepted k _ _ _ z (instance_path s _ (with_node s.table c.args.sender (with_final c.args.receiver)) refl refl refl)
