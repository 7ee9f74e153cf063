use Rattle.std.proofs.Common.{rules}
use Rattle.lines.proofs.Gathering.{begun_some}
use Rattle.lines.proofs.gather.Line.has_begun.Goals as goal

pub returns : goal.returns
returns c = search (rules, begun_some)
