use Rattle.std.proofs.Common.{rules}
use Rattle.transcript.specs.Harbours.{ended}
use Rattle.transcript.proofs.types.Harbour.end_line.Goals as goal

pub returns : goal.returns
unfolding ended
returns c = search rules
