use Rattle.std.proofs.Common.{rules}
use Rattle.transcript.specs.Runs.{run_served}
use Rattle.transcript.proofs.run.answer_run.Goals as goal

pub returns-in-Some-Bearings : goal.returns-in-Some-Bearings
unfolding run_served
returns-in-Some-Bearings c = search rules

pub returns-in-Some-Lamps : goal.returns-in-Some-Lamps
unfolding run_served
returns-in-Some-Lamps c = search rules

pub returns-in-Ok : goal.returns-in-Ok
unfolding run_served
returns-in-Ok c = search rules

pub returns-in-Err-Refused : goal.returns-in-Err-Refused
unfolding run_served
returns-in-Err-Refused c = search rules
