-- The sample runs, computed.
use Rattle.std.proofs.Common.{replicate, Some, None, refl, arith}
use Rattle.law.specs.Runs.{setup_run, setup_history, after, answered_by, run, history, outcome_history}
use Rattle.law.specs.Samples.{Samples}

pub samples : Samples
unfolding setup_run setup_history after answered_by run history outcome_history
samples = record {
  sizes = record { some_node = omega arith; few_nodes = omega arith; some_item = omega arith; few_items = omega arith };
  one = record { values = replicate 5 (Some 3); sent = replicate 16 (Some 8); marks = replicate 18 1; long_values = omega arith; long_sent = omega arith; long_marks = omega arith };
  other = record { values = replicate 4 None; sent = replicate 20 (Some 5); marks = replicate 16 3; long_values = omega arith; long_sent = omega arith; long_marks = omega arith };
  alike = refl;
  empty = refl;
  waits = refl;
  waits_too = refl;
  ends = refl;
}
