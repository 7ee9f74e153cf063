use Rattle.std.proofs.lemmas.Iterator.Consumers.{nth_from_yields_List, YieldsList-from_first}
use Rattle.lines.specs.Fields.{fields}
use Rattle.lines.specs.Walk.{to_come}
use Rattle.lines.proofs.split.field.Goals as goal

pub returns : goal.returns
returns c =
    let fs = fields c.args.part c.args.line.now in
    nth_from_yields_List c.nth.result c.nth.new.self c.args.index c.nth.ensures.ran (YieldsList-from_first (λ f. f.now) to_come fs c.new.ensures)
