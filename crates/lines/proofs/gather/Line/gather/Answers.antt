use Rattle.std.proofs.Common.{rules}
use Rattle.std.proofs.lemmas.List.{take_all}
use Rattle.lines.proofs.gather.Line.gather.Goals as goal
use Rattle.lines.proofs.Gathering.{gathered_more}

pub loop-octet-preserved : goal.loop-octet-preserved
loop-octet-preserved c = search (rules, gathered_more)

pub returns : goal.returns
returns c = search (rules, take_all)
