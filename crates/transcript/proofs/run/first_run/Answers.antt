use Rattle.std.proofs.Common.{rules}
use Rattle.transcript.specs.Runs.{first_run}
use Rattle.transcript.proofs.run.first_run.Goals as goal

pub returns-in-Make : goal.returns-in-Make
unfolding first_run
returns-in-Make c = search rules

pub returns-in_err-n : goal.returns-in_err-n
unfolding first_run
returns-in_err-n c = search rules
