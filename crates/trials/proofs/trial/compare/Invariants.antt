use Rattle.std.proofs.Common.{◌≡◌, ◌<◌, None}
use Rattle.transcript.specs.Transcripts.{lines_in, answers_to}
use Rattle.trials.specs.Compare.{differs}
use Rattle.trials.proofs.trial.compare.Given as goal

-- once a size was tried, the texts do not differ
abbrev pub invariant-loop-size : goal.invariant-loop-size
invariant-loop-size l = 0 < l.size-index → differs 0 (answers_to (lines_in l.input)) l.expected ≡ None
