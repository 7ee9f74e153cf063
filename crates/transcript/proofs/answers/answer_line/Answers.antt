use Rattle.std.proofs.Common.{rules}
use Rattle.transcript.specs.Answers.{served}
use Rattle.transcript.proofs.answers.answer_line.Goals as goal

pub returns-in-Ok-run : goal.returns-in-Ok-run
unfolding served
returns-in-Ok-run g c = record { text = search rules; desk = search rules }

pub returns-in-Err : goal.returns-in-Err
unfolding served
returns-in-Err g c = record { text = search rules; desk = search rules }

pub returns-in-Err-run : goal.returns-in-Err-run
unfolding served
returns-in-Err-run g c = record { text = search rules; desk = search rules }
