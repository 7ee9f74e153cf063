use Rattle.std.proofs.Common.{ℕ, List, drop, ap, ◌∙◌}
use Rattle.std.proofs.lemmas.List.{drop-drop}
use Rattle.lines.specs.Fields.{fields}
use Rattle.lamphouse.proofs.task.fields_from.Goals as goal

pub loop-k-preserved : goal.loop-k-preserved
loop-k-preserved c =
    c.next.ensures.left ∙ ap (λ (fs : List (List ℕ)). drop 1 fs) c.loop-k.invariant
    ∙ drop-drop 1 c.loop-k._k (fields 32 c.args.line.now)
