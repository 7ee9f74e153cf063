-- What a close leaves, as a whole.
use Rattle.std.specs.Prelude.{◌≡◌, ℕ, Bool, List, Option, Result}
use Rattle.refusal.specs.declared.Refusal.{Refusal}
use Rattle.refusal.specs.Refusals.{answered}
use Rattle.board.specs.Tables.{marks_after}
use Rattle.board.specs.Setups.{if_accepted}
use Rattle.agreement.specs.declared.states.Instance.{Instance}
use Rattle.agreement.specs.Closes.{values_over, values_after, instance_after}

-- what a close leaves, where its checks say `refusal`: everything is closed on what stood before it, or nothing is altered
pub record CloseDone {R : Type 0} (meaning : R → ℕ) (tosses : ℕ → ℕ → ℕ → Bool) (refusal : Option Refusal) (s s' : Instance) (values values' scratch scratch' sent : List (Option R)) (marks marks' : List ℕ) (r : Result (Unit {0}) Refusal) : Type 0 where
  pub answer : r ≡ answered refusal tt
  pub state : s' ≡ if_accepted refusal (instance_after meaning tosses s values sent marks) s
  pub to_values : values' ≡ if_accepted refusal (values_after meaning tosses s values sent marks) values
  pub to_scratch : scratch' ≡ if_accepted refusal (values_over meaning tosses s values sent marks scratch) scratch
  pub to_marks : marks' ≡ if_accepted refusal (marks_after s.table marks) marks
