use Rattle.std.proofs.Common.{rules}
use Rattle.std.proofs.lemmas.List.Splits.{length-slice_split}
use Rattle.lines.proofs.split.count_fields.Goals as goal

pub returns : goal.returns
returns c = search (rules, length-slice_split)
