use Rattle.std.proofs.Common.{rules}
use Rattle.transcript.proofs.HarbourLaws.{not_taken}
use Rattle.transcript.proofs.harbour.answer_gathered.Goals as goal

pub returns-in-Err : goal.returns-in-Err
returns-in-Err c = search (rules, not_taken)
