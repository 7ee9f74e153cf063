-- The checks of what the faulty nodes send.
use Rattle.std.specs.Prelude.{ℕ, Bool, cond, not, ◌||◌, List, None, Option, ◌==◌, nat_le, slice_index}
use Rattle.refusal.specs.declared.Refusal.{Refusal}
use Rattle.refusal.specs.declared.Refusal.TheVariants.{NoNode, NoItem, HonestSender, FaultyNode, WrongPhase, Repeated, Over}
use Rattle.refusal.specs.Refusals.{refuse}
use Rattle.board.specs.declared.states.Table.{Table}
use Rattle.board.specs.Tables.{faulty_at, final_at, mark_place}

-- whether an octet of the marks board is a word of the side that this step is on; all others count as 0
abbrev pub is_word : Bool → ℕ → Bool
is_word cells k = cond cells (k == 1) (k == 2 || k == 3)

-- the checks of a send, but for its boards; `cells` is whether cells are sent in this step, `over` whether nothing can be sent any more,
-- and `wrong` whether the send is of the wrong side, or of a bit above 1
abbrev pub send_checks : Table → Bool → Bool → List ℕ → Bool → ℕ → ℕ → ℕ → Option Refusal
send_checks t cells over marks wrong sender receiver item =
    refuse (nat_le t.n sender || nat_le t.n receiver) NoNode
    (refuse (nat_le t.m item) NoItem
    (refuse (not (faulty_at t sender)) HonestSender
    (refuse (faulty_at t receiver) FaultyNode
    (refuse wrong WrongPhase
    (refuse (is_word cells (slice_index marks (mark_place t sender receiver item)) || final_at t sender receiver) Repeated
    (refuse over Over None))))))
