-- What each step's closing gives, and the closing of one item at one node by itself.
use Rattle.std.specs.Prelude.{ℕ, ◌/◌, ◌%◌, Bool, true, false, cond, not, ◌||◌, List, length, take, Some, None, Ok, Err, Option, Result, ◌==◌, nat_le, nat_lt}
use Rattle.refusal.specs.declared.Refusal.{Refusal}
use Rattle.refusal.specs.declared.Refusal.TheVariants.{BadSize, Short, NoNode, NoItem, WrongPhase, Over}
use Rattle.refusal.specs.Refusals.{refuse, unless}
use Rattle.coin.specs.Tosses.{toss_of}
use Rattle.closing.specs.declared.types.Phase.{Phase}
use Rattle.closing.specs.declared.types.Phase.TheVariants.{Poll, Echo, ToZero, ToOne, Toss}
use Rattle.closing.specs.declared.types.Step.{Step}
use Rattle.closing.specs.declared.types.ItemState.{ItemState}
use Rattle.closing.specs.declared.types.ItemClose.{ItemClose}
use Rattle.closing.specs.declared.types.Closed.{Closed}
use Rattle.closing.specs.declared.types.Closed.TheVariants.{Polled, Graded, Voted}
use Rattle.closing.specs.Counting.{quorum_of, weak_quorum_of, leading_of, graded, votes}

-- whether the bit b was sent by q nodes
abbrev pub has_votes : ℕ → Bool → List ℕ → Bool
has_votes q b marks = nat_le q (votes b marks)

-- step 3k (Coin-Fixed-To-0): the bit, and whether it is decided; only zeros decide
abbrev pub to_zero : ℕ → List ℕ → Bool × Bool
to_zero q marks =
    cond (has_votes q false marks) (false, true) (cond (has_votes q true marks) (true, false) (false, false))

-- step 3k + 1 (Coin-Fixed-To-1): the bit, and whether it is decided; only ones decide
abbrev pub to_one : ℕ → List ℕ → Bool × Bool
to_one q marks =
    cond (has_votes q true marks) (true, true) (cond (has_votes q false marks) (false, false) (true, false))

-- step 3k + 2 (Coin-Genuinely-Flipped): the bit, which is the toss where neither bit has the quorum; nothing is decided
abbrev pub by_toss : ℕ → Bool → List ℕ → Bool × Bool
by_toss q toss marks =
    cond (has_votes q false marks) (false, false) (cond (has_votes q true marks) (true, false) (toss, false))

-- what step 2 leaves a node: the held cell, its grade, and the first bit, 0 at grade 2 and else 1
abbrev pub after_echo : {R : Type 0} → Option R × ℕ → Closed R
after_echo g = Graded g.0 g.1 (not (g.1 == 2))

-- what a vote leaves a node: a decided item never changes again
abbrev pub after_vote : {R : Type 0} → ItemState → Bool × Bool → Closed R
after_vote s v = cond s.decided (Voted s.bit true) (Voted v.0 v.1)

-- what the closing of a step of this phase gives a node of an item, from the cells and the marks that it heard
abbrev pub closed_in : {R : Type 0} → Phase → (R → ℕ) → (ℕ → ℕ → ℕ → Bool) → Step → ItemState → List (Option R) → List ℕ → Closed R
closed_in Poll meaning tosses p s cells marks = Polled (leading_of meaning p.quorum cells)
closed_in Echo meaning tosses p s cells marks = after_echo (graded meaning p.quorum p.weak_quorum cells)
closed_in ToZero meaning tosses p s cells marks = after_vote s (to_zero p.quorum marks)
closed_in ToOne meaning tosses p s cells marks = after_vote s (to_one p.quorum marks)
closed_in Toss meaning tosses p s cells marks =
    after_vote s (by_toss p.quorum (toss_of tosses s.node p.round s.item) marks)

-- the same at the step's own phase
abbrev pub closed : {R : Type 0} → (R → ℕ) → (ℕ → ℕ → ℕ → Bool) → Step → ItemState → List (Option R) → List ℕ → Closed R
closed meaning tosses p s cells marks = closed_in p.phase meaning tosses p s cells marks

-- the phase of a step from 3 on, by its remainder by 3
abbrev pub round_phase : ℕ → Phase
round_phase r = cond (r == 0) ToZero (cond (r == 1) ToOne Toss)

-- the phase of a step, and none outside 1 to 302
abbrev pub phase_of : ℕ → Option Phase
phase_of step =
    cond (step == 0 || nat_lt 302 step) None
    (cond (step == 1) (Some Poll) (cond (step == 2) (Some Echo) (Some (round_phase (step % 3)))))

-- whether cells are sent in a step of this phase; in the others bits are
abbrev pub sends_cells : Phase → Bool
sends_cells Poll = true
sends_cells Echo = true
sends_cells ToZero = false
sends_cells ToOne = false
sends_cells Toss = false

-- how much was heard of what a step needs, cells or marks; outside the steps nothing is needed
abbrev pub heard_count : Option Phase → ℕ → ℕ → ℕ → ℕ
heard_count None n cells marks = n
heard_count (Some p) n cells marks = cond (sends_cells p) cells marks

-- the checks of one node's closing by itself, but for the step's, which is last
abbrev pub item_refusal : ItemClose → ℕ → ℕ → Option Refusal
item_refusal a cells marks =
    refuse (a.n == 0 || nat_lt 16 a.n) BadSize
    (refuse (nat_lt (heard_count (phase_of a.step) a.n cells marks) a.n) Short
    (refuse (nat_le a.n a.node) NoNode
    (refuse (nat_lt 15 a.item) NoItem
    (refuse (nat_lt 1 a.bit) WrongPhase None))))

-- the step of this phase that an item is closed in, with the thresholds of n nodes
abbrev pub step_of : ItemClose → Phase → Step
step_of a p = record { phase = p; round = a.step / 3; quorum = quorum_of a.n; weak_quorum = weak_quorum_of a.n }

-- how the node stands with the item
abbrev pub state_of : ItemClose → ItemState
state_of a = record { node = a.node; item = a.item; bit = (a.bit == 1); decided = a.decided }

-- the closing in a step of this phase, from what the first n nodes sent; outside the steps it is over
abbrev pub item_closed : {R : Type 0} → (R → ℕ) → (ℕ → ℕ → ℕ → Bool) → ItemClose → List (Option R) → List ℕ → Option Phase → Result (Closed R) Refusal
item_closed meaning tosses a cells marks None = Err Over
item_closed meaning tosses a cells marks (Some p) =
    Ok (closed meaning tosses (step_of a p) (state_of a) (take a.n cells) (take a.n marks))

-- one node's closing of one item by itself: what it answers
abbrev pub item_answer : {R : Type 0} → (R → ℕ) → (ℕ → ℕ → ℕ → Bool) → ItemClose → List (Option R) → List ℕ → Result (Closed R) Refusal
item_answer meaning tosses a cells marks =
    unless (item_refusal a (length cells) (length marks)) (item_closed meaning tosses a cells marks (phase_of a.step))
