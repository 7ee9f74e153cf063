use Rattle.std.proofs.Common.{rules}
use Rattle.transcript.proofs.LineLaws.{transcribed}
use Rattle.transcript.proofs.whole.transcribe_parts.Goals as goal

pub returns : goal.returns
returns c = search (rules, transcribed)
