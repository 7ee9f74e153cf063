-- What the close of an instance makes of it and of the boards: the close of its table at the step that is in force.
use Rattle.std.specs.Prelude.{ℕ, ◌+◌, Bool, List, Option}
use Rattle.closing.specs.declared.types.Phase.{Phase}
use Rattle.closing.specs.declared.types.Phase.TheVariants.{Poll, Echo, ToZero, ToOne, Toss}
use Rattle.closing.specs.declared.types.Step.{Step}
use Rattle.closing.specs.declared.types.Closed.{Closed}
use Rattle.closing.specs.Counting.{quorum_of, weak_quorum_of}
use Rattle.board.specs.declared.states.Node.{Node}
use Rattle.board.specs.declared.states.Table.{Table}
use Rattle.hearing.specs.Closes as hearing
use Rattle.agreement.specs.declared.states.Instance.{Instance}

-- the phase after a close
abbrev pub next_phase : Phase → Phase
next_phase Poll = Echo
next_phase Echo = ToZero
next_phase ToZero = ToOne
next_phase ToOne = Toss
next_phase Toss = ToZero

-- the round after a close of this phase
abbrev pub next_round : Phase → ℕ → ℕ
next_round Poll k = k
next_round Echo k = k
next_round ToZero k = k
next_round ToOne k = k
next_round Toss k = k + 1

-- the step that is in force, with its thresholds
abbrev pub step_now : Instance → Step
step_now s = record { phase = s.phase; round = s.round; quorum = quorum_of s.table.n; weak_quorum = weak_quorum_of s.table.n }

module _ {R : Type 0} (meaning : R → ℕ) (tosses : ℕ → ℕ → ℕ → Bool) (s : Instance) (values sent : List (Option R)) (marks : List ℕ) where
  -- what the close gives node i of item c, on what was sent before it
  abbrev pub closed_at : ℕ → ℕ → Closed R
  closed_at i c = hearing.closed_at meaning tosses s.table (step_now s) values sent marks i c

  -- node i's value for item c after the close
  abbrev pub value_after : ℕ → ℕ → Option R
  value_after i c = hearing.value_after meaning tosses s.table (step_now s) values sent marks i c

  -- a board of cells over which the values after the close were written
  abbrev pub values_over : List (Option R) → List (Option R)
  values_over cells = hearing.values_over meaning tosses s.table (step_now s) values sent marks cells

  abbrev pub values_after : List (Option R)
  values_after = values_over values

  -- node i after the close
  abbrev pub node_after : ℕ → Node
  node_after i = hearing.node_after meaning tosses s.table (step_now s) values sent marks i

  abbrev pub table_after : Table
  table_after = hearing.table_after meaning tosses s.table (step_now s) values sent marks

  abbrev pub instance_after : Instance
  instance_after = record { table = table_after; phase = next_phase s.phase; round = next_round s.phase s.round }
