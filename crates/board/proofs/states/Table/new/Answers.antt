use Rattle.std.proofs.Common.{◌≡◌, length, replicate, None, refl, ap, rules}
use Rattle.board.specs.declared.states.Node.{Node}
use Rattle.board.specs.Setups.{make_refusal}
use Rattle.board.proofs.Paths.{when_made, when_accepted}
use Rattle.board.proofs.states.Table.new.Goals as goal

pub returns-clause-answer : goal.returns-clause-answer
returns-clause-answer g c =
    let n = c.args.n in
    let m = c.args.m in
    let k = make_refusal n m (length c.args.values.now) (length c.args.marks.now) in
    let z : k ≡ None = search rules in
    when_made n m k _ z refl refl (ap (λ (x : Node). replicate 16 x) c.new-nodes.ensures)

pub returns-clause-marks : goal.returns-clause-marks
returns-clause-marks g c =
    let k = make_refusal c.args.n c.args.m (length c.args.values.now) (length c.args.marks.now) in
    when_accepted k _ _ _ (let z : k ≡ None = search rules in z) (search rules)

pub returns-clause-values : goal.returns-clause-values
returns-clause-values g c =
    let k = make_refusal c.args.n c.args.m (length c.args.values.now) (length c.args.marks.now) in
    when_accepted k _ _ _ (let z : k ≡ None = search rules in z) (search rules)
