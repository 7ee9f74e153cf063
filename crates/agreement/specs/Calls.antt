-- The calls on an instance: their checks, and what those do that are accepted.
use Rattle.std.specs.Prelude.{ℕ, Bool, true, not, ◌||◌, List, None, Option, ◌==◌, nat_le, nat_lt, slice_set}
use Rattle.refusal.specs.declared.Refusal.{Refusal}
use Rattle.refusal.specs.declared.Refusal.TheVariants.{Short, NoNode, HonestSender, FaultyNode, WrongPhase, Repeated, Over}
use Rattle.refusal.specs.Refusals.{refuse}
use Rattle.closing.specs.Closings.{sends_cells}
use Rattle.board.specs.declared.states.Node.{Node}
use Rattle.board.specs.declared.states.Table.{Table}
use Rattle.board.specs.Tables.{faulty_at, final_at, with_node, mark_place, undecided_count}
use Rattle.board.specs.Sends as board
use Rattle.agreement.specs.declared.states.Instance.{Instance}

-- whether nothing can be sent or closed any more: after round 100, or with nothing undecided
abbrev pub is_over : Instance → Bool
is_over s = nat_lt 100 s.round || undecided_count s.table == 0

-- the checks of a send, but for its boards; `wrong` is whether it is of the wrong side, or of a bit above 1
abbrev pub send_checks : Instance → List ℕ → Bool → ℕ → ℕ → ℕ → Option Refusal
send_checks s marks wrong sender receiver item =
    board.send_checks s.table (sends_cells s.phase) (is_over s) marks wrong sender receiver item

-- the checks of sending a cell; `fits` is whether the boards are long enough
abbrev pub send_value_refusal : Instance → List ℕ → Bool → ℕ → ℕ → ℕ → Option Refusal
send_value_refusal s marks fits sender receiver item =
    refuse (not fits) Short (send_checks s marks (not (sends_cells s.phase)) sender receiver item)

-- the checks of sending a bit
abbrev pub send_bit_refusal : Instance → List ℕ → Bool → ℕ → ℕ → ℕ → ℕ → Option Refusal
send_bit_refusal s marks fits sender receiver item bit =
    refuse (not fits) Short (send_checks s marks (sends_cells s.phase || nat_lt 1 bit) sender receiver item)

-- the checks of making a sender's bits for a receiver final
abbrev pub send_final_refusal : Instance → ℕ → ℕ → Option Refusal
send_final_refusal s sender receiver =
    refuse (nat_le s.table.n sender || nat_le s.table.n receiver) NoNode
    (refuse (not (faulty_at s.table sender)) HonestSender
    (refuse (faulty_at s.table receiver) FaultyNode
    (refuse (sends_cells s.phase) WrongPhase
    (refuse (final_at s.table sender receiver) Repeated
    (refuse (is_over s) Over None)))))

abbrev pub close_refusal : Instance → Bool → Option Refusal
close_refusal s fits = refuse (not fits) Short (refuse (is_over s) Over None)

-- the check of asking for the list of what is undecided; `places` is the list's length
abbrev pub undecided_refusal : Table → ℕ → Option Refusal
undecided_refusal t places = refuse (nat_lt places (undecided_count t)) Short None

-- what an accepted send leaves on a board
abbrev pub sent_after : {X : Type 0} → Table → List X → ℕ → ℕ → ℕ → X → List X
sent_after t board sender receiver item x = slice_set board (mark_place t sender receiver item) x

-- the node, its bits for this receiver made final
abbrev pub with_final : ℕ → Node → Node
with_final receiver x = record { faulty = x.faulty; bits = x.bits; decided = x.decided; finals = slice_set x.finals receiver true }

-- the instance after an accepted send of final bits
abbrev pub final_after : Instance → ℕ → ℕ → Instance
final_after s sender receiver = record { table = with_node s.table sender (with_final receiver); phase = s.phase; round = s.round }
