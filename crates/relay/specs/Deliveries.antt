-- What delivering a message does: the calls that it stands for are made one after the other. Of the kind of reading, w is the width.
use Rattle.std.specs.Prelude.{◌≡◌, ℕ, ◌+◌, Bool, false, not, List, [], ◌∷◌, ◌++◌, map, length, drop, is_err, Some, None, Option, Result, ◌==◌, nat_lt, slice_index_or}
use Rattle.std.specs.List.{range_with_len, list_any}
use Rattle.refusal.specs.declared.Refusal.{Refusal}
use Rattle.refusal.specs.declared.Refusal.TheVariants.{Short, StrangeReading, OutOfTurn}
use Rattle.refusal.specs.Refusals.{refuse}
use Rattle.agreement.specs.declared.states.Instance.{Instance}
use Rattle.agreement.specs.Phases.{step_number}
use Rattle.law.specs.declared.calls.Call.{Call}
use Rattle.law.specs.declared.calls.Call.TheVariants.{SendValue, SendBit, SendFinal}
use Rattle.law.specs.declared.calls.Told.{Told}
use Rattle.law.specs.Runs.{Tosses, run, history}
use Rattle.play.specs.Moves.{Lent, move_of, moves_of, Made, world_of, call_says}
use Rattle.wire.specs.declared.message.BitLetter.{BitLetter}
use Rattle.wire.specs.declared.message.BitLetter.TheVariants.{Bits, Final}
use Rattle.wire.specs.declared.message.Letter.{Letter}
use Rattle.wire.specs.declared.message.Letter.TheVariants.{OfCells, OfBits}
use Rattle.wire.specs.Bits.{bit_number}
use Rattle.wire.specs.Messages.{Contents, with_cells, with_bits, Parts, contents_of}
use Rattle.wire.specs.Looks.{cell_answer, bit_answer}

-- the call that follows the bits of node i to node j: final bits are made to stay
abbrev pub last_call : {R : Type 0} → BitLetter → ℕ → ℕ → List (Call R)
last_call Bits i j = []
last_call Final i j = SendFinal i j ∷ []

-- the calls that a message to node j stands for: of each item, from item 0 on, its cell or its bit is sent
abbrev pub message_calls : {R : Type 0} → ℕ → Contents R → List (Call R)
message_calls j (with_cells h cells) = map (λ c. SendValue h.node j c (slice_index_or cells c None)) (range_with_len 0 (length cells))
message_calls j (with_bits h bits) =
    map (λ c. SendBit h.node j c (bit_number (slice_index_or bits c false))) (range_with_len 0 (length bits)) ++ last_call h.letter h.node j

-- the calls that a message with these parts stands for
abbrev pub calls_of : {R : Type 0} → ℕ → (List ℕ → Option R) → ℕ → Parts → List (Call R)
calls_of w reads j p = message_calls j (contents_of w reads p)

-- how many calls a message of m items stands for
abbrev pub count_calls : Letter → ℕ → ℕ
count_calls (OfCells l) m = m
count_calls (OfBits Bits) m = m
count_calls (OfBits Final) m = m + 1

-- the call at a place among those that a message stands for; behind its items that is the send of final bits
abbrev pub call_at : {R : Type 0} → ℕ → (List ℕ → Option R) → ℕ → Parts → ℕ → Call R
call_at w reads j p place = slice_index_or (calls_of w reads j p) place (SendFinal p.front.node j)

-- whether an item of a message with this letter does not read: its octets are no cell of the kind, or the body ends before it
abbrev pub strange_by : {R : Type 0} → ℕ → (List ℕ → Option R) → Parts → Letter → ℕ → Bool
strange_by w reads p (OfCells l) c = is_err (cell_answer w reads p c)
strange_by w reads p (OfBits l) c = is_err (bit_answer p c)

-- the same by the message's own letter
abbrev pub is_strange : {R : Type 0} → ℕ → (List ℕ → Option R) → Parts → ℕ → Bool
is_strange w reads p c = strange_by w reads p p.front.letter c

-- whether one of a message's items does not read
abbrev pub has_strange : {R : Type 0} → ℕ → (List ℕ → Option R) → Parts → Bool
has_strange w reads p = list_any (is_strange w reads p) (range_with_len 0 p.count)

-- the checks of a delivery to node j: the places for the answers, the items of the message, and its step
abbrev pub deliver_refusal : {R : Type 0} → ℕ → (List ℕ → Option R) → ℕ → Parts → Instance → ℕ → Option Refusal
deliver_refusal w reads j p s places =
    refuse (nat_lt places (length (calls_of w reads j p))) Short
    (refuse (has_strange w reads p) StrangeReading
    (refuse (not (p.front.step == step_number s)) OutOfTurn None))

-- the four boards, as they are lent
abbrev pub lent : {R : Type 0} → List (Option R) → List (Option R) → List (Option R) → List ℕ → Lent R
lent values scratch sent marks = record { values = values; scratch = scratch; sent = sent; marks = marks }

module _ {R : Type 0} (meaning : R → ℕ) (s s' : Instance) (sent sent' : List (Option R)) (marks marks' : List ℕ) where
  -- one send k was made and answered a: this is so whatever a coin tosses and whatever the values board and the scratch board hold
  abbrev pub Sent : Call R → Result (Told R) Refusal → Type 0
  Sent k a = (f : Tosses) (values scratch : List (Option R)) →
      Made meaning (move_of s.table.n s.table.m (lent values scratch sent marks) f k) (world_of s (lent values scratch sent marks)) (world_of s' (lent values scratch sent' marks')) a

  -- Sends were made in their order, and their answers were written to the front of a list: this is so whatever a coin tosses and whatever the values board and the scratch board hold.
  pub record AllSent (calls : List (Call R)) (old answers : List (Result (Told R) Refusal)) : Type 0 where
    pub world : (f : Tosses) (values scratch : List (Option R)) →
        world_of s' (lent values scratch sent' marks') ≡ run meaning (world_of s (lent values scratch sent marks)) (moves_of s.table.n s.table.m (lent values scratch sent marks) f calls)
    pub answers_are : (f : Tosses) (values scratch : List (Option R)) →
        answers ≡ call_says (history meaning (world_of s (lent values scratch sent marks)) (moves_of s.table.n s.table.m (lent values scratch sent marks) f calls)) ++ drop (length calls) old

  -- what a delivery leaves, where its checks say `refusal`: all calls were made, or nothing is altered
  abbrev pub Delivers : Option Refusal → List (Call R) → List (Result (Told R) Refusal) → List (Result (Told R) Refusal) → Type 0
  Delivers None calls old answers = AllSent calls old answers
  Delivers (Some e) calls old answers = (s' ≡ s) × (sent' ≡ sent) × (marks' ≡ marks) × (answers ≡ old)
