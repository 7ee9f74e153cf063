-- Whole runs: what each call answers, from the making of the setup on.
use Rattle.std.specs.Prelude.{ℕ, Bool, List, [], ◌∷◌, Option, Result, ◌==◌, slice_set}
use Rattle.refusal.specs.declared.Refusal.{Refusal}
use Rattle.refusal.specs.Refusals.{answered}
use Rattle.closing.specs.Counting.{mark_of}
use Rattle.board.specs.declared.states.Table.{Table}
use Rattle.board.specs.Tables.{with_node, cell_place, undecided_count, marks_after}
use Rattle.board.specs.Setups.{if_accepted, propose_refusal}
use Rattle.board.specs.Looks.{decision_refusal, decision_of}
use Rattle.agreement.specs.declared.states.Instance.{Instance}
use Rattle.agreement.specs.Setups.{marked, mark_faulty_refusal}
use Rattle.agreement.specs.Closes.{values_after, instance_after}
use Rattle.agreement.specs.Calls.{send_value_refusal, send_bit_refusal, send_final_refusal, close_refusal, undecided_refusal, sent_after, final_after}
use Rattle.law.specs.declared.calls.SetupCall.{SetupCall}
use Rattle.law.specs.declared.calls.SetupCall.TheVariants.{MarkFaulty, Propose}
use Rattle.law.specs.declared.calls.Call.{Call}
use Rattle.law.specs.declared.calls.Call.TheVariants as call
use Rattle.law.specs.declared.calls.Told.{Told}
use Rattle.law.specs.declared.calls.Told.TheVariants.{Done, Decision, Count}

-- what a coin tosses, by node, round and item
abbrev pub Tosses : Type 0
Tosses = ℕ → ℕ → ℕ → Bool

-- A setup call as it is made; `fits` is whether the boards that it brings are long enough.
pub record SetupMove (R : Type 0) : Type 0 where
  pub call : SetupCall R
  pub fits : Bool

-- A setup with its values board.
pub record Prepared (R : Type 0) : Type 0 where
  pub table : Table
  pub values : List (Option R)

-- the first check that hits
abbrev pub setup_refusal : {R : Type 0} → Prepared R → Bool → SetupCall R → Option Refusal
setup_refusal p fits (MarkFaulty i) = mark_faulty_refusal p.table i
setup_refusal p fits (Propose i c x) = propose_refusal p.table fits i c

-- what an accepted call makes of the setup
abbrev pub setup_effect : {R : Type 0} → Prepared R → SetupCall R → Prepared R
setup_effect p (MarkFaulty i) = record { table = with_node p.table i marked; values = p.values }
setup_effect p (Propose i c x) = record { table = p.table; values = slice_set p.values (cell_place p.table i c) x }

-- what a call makes of the setup: a refusal alters nothing
abbrev pub setup_after : {R : Type 0} → Prepared R → SetupMove R → Prepared R
setup_after p v = if_accepted (setup_refusal p v.fits v.call) (setup_effect p v.call) p

-- what a call answers
abbrev pub setup_answer : {R : Type 0} → Prepared R → SetupMove R → Result (Told R) Refusal
setup_answer p v = answered (setup_refusal p v.fits v.call) Done

-- A setup call with its answer.
pub record SetupAsked (R : Type 0) : Type 0 where
  pub call : SetupCall R
  pub answer : Result (Told R) Refusal

-- the setup after a list of calls
unfoldable pub setup_run : {R : Type 0} → Prepared R → List (SetupMove R) → Prepared R
setup_run p [] = p
setup_run p (v ∷ vs) = setup_run (setup_after p v) vs

-- the calls with their answers, in order
unfoldable pub setup_history : {R : Type 0} → Prepared R → List (SetupMove R) → List (SetupAsked R)
setup_history p [] = []
setup_history p (v ∷ vs) = record { call = v.call; answer = setup_answer p v } ∷ setup_history (setup_after p v) vs

-- A call as it is made: with what the coin tosses that it brings, which only a close looks at, and with boards that are long enough or not.
pub record Move (R : Type 0) : Type 0 where
  pub call : Call R
  pub tosses : Tosses
  pub fits : Bool

-- An instance with its boards.
pub record World (R : Type 0) : Type 0 where
  pub state : Instance
  pub values : List (Option R)
  pub sent : List (Option R)
  pub marks : List ℕ

-- the first check that hits
abbrev pub refusal : {R : Type 0} → World R → Bool → Call R → Option Refusal
refusal w fits (call.SendValue i j c x) = send_value_refusal w.state w.marks fits i j c
refusal w fits (call.SendBit i j c b) = send_bit_refusal w.state w.marks fits i j c b
refusal w fits (call.SendFinal i j) = send_final_refusal w.state i j
refusal w fits call.Close = close_refusal w.state fits
refusal w fits (call.Decision i c) = decision_refusal w.state.table fits i c
refusal w fits (call.Undecided places) = undecided_refusal w.state.table places

-- what an accepted call makes of the instance and its boards
abbrev pub effect : {R : Type 0} → (R → ℕ) → Tosses → World R → Call R → World R
effect meaning tosses w (call.SendValue i j c x) = record {
  state = w.state;
  values = w.values;
  sent = sent_after w.state.table w.sent i j c x;
  marks = sent_after w.state.table w.marks i j c 1;
}
effect meaning tosses w (call.SendBit i j c b) = record {
  state = w.state;
  values = w.values;
  sent = w.sent;
  marks = sent_after w.state.table w.marks i j c (mark_of (b == 1));
}
effect meaning tosses w (call.SendFinal i j) = record {
  state = final_after w.state i j;
  values = w.values;
  sent = w.sent;
  marks = w.marks;
}
effect meaning tosses w call.Close = record {
  state = instance_after meaning tosses w.state w.values w.sent w.marks;
  values = values_after meaning tosses w.state w.values w.sent w.marks;
  sent = w.sent;
  marks = marks_after w.state.table w.marks;
}
effect meaning tosses w (call.Decision i c) = w
effect meaning tosses w (call.Undecided places) = w

-- what an accepted call tells
abbrev pub says : {R : Type 0} → World R → Call R → Told R
says w (call.SendValue i j c x) = Done
says w (call.SendBit i j c b) = Done
says w (call.SendFinal i j) = Done
says w call.Close = Done
says w (call.Decision i c) = Decision (decision_of w.state.table w.values i c)
says w (call.Undecided places) = Count (undecided_count w.state.table)

-- what a call makes of the instance and its boards: a refusal alters nothing
unfoldable pub after : {R : Type 0} → (R → ℕ) → World R → Move R → World R
after meaning w v = if_accepted (refusal w v.fits v.call) (effect meaning v.tosses w v.call) w

-- what a call answers
unfoldable pub answered_by : {R : Type 0} → World R → Bool → Call R → Result (Told R) Refusal
answered_by w fits k = answered (refusal w fits k) (says w k)

-- A call with its answer.
pub record Asked (R : Type 0) : Type 0 where
  pub call : Call R
  pub answer : Result (Told R) Refusal

-- the instance and its boards after a list of calls
unfoldable pub run : {R : Type 0} → (R → ℕ) → World R → List (Move R) → World R
run meaning w [] = w
run meaning w (v ∷ vs) = run meaning (after meaning w v) vs

-- the calls with their answers, in order
unfoldable pub history : {R : Type 0} → (R → ℕ) → World R → List (Move R) → List (Asked R)
history meaning w [] = []
history meaning w (v ∷ vs) =
    record { call = v.call; answer = answered_by w v.fits v.call } ∷ history meaning (after meaning w v) vs

-- A decision asked of an outcome.
pub record Ask : Type 0 where
  pub node : ℕ
  pub item : ℕ
  pub fits : Bool

-- what an outcome with this table and this values board answers
abbrev pub outcome_answer : {R : Type 0} → Table → List (Option R) → Ask → Result (Told R) Refusal
outcome_answer t values a =
    answered (decision_refusal t a.fits a.node a.item) (Decision (decision_of t values a.node a.item))

-- the decisions asked of the outcome, with their answers
unfoldable pub outcome_history : {R : Type 0} → Table → List (Option R) → List Ask → List (Asked R)
outcome_history t values [] = []
outcome_history t values (q ∷ qs) =
    record { call = call.Decision q.node q.item; answer = outcome_answer t values q } ∷ outcome_history t values qs
