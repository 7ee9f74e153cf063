use Rattle.std.proofs.Common.{eqb, Some, rules, tests}
use Rattle.std.proofs.lemmas.Iterator.{YieldsList-from_slice}
use Rattle.std.proofs.lemmas.Iterator.Search.{position_from_yields_List}
use Rattle.std.proofs.lemmas.List.Splits.{slice_split_none}
use Rattle.lines.proofs.Parting.{cut}
use Rattle.lines.proofs.split.first_field.Goals as goal

pub returns-in-Some : goal.returns-in-Some
returns-in-Some c =
    let place = position_from_yields_List (λ b. eqb b c.args.part) _ _ (Some c.in-Some.end) c.in-Some.ensures.ran (YieldsList-from_slice c.args.line.now cc) (λ x b q k. search (rules, tests)) in
    cut c.args.part c.args.line.now c.in-Some.end place

pub returns-in-None : goal.returns-in-None
returns-in-None c = search (rules, slice_split_none)
