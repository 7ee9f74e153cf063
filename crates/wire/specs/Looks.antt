-- What a message answers of an item.
use Rattle.std.specs.Prelude.{ℕ, ◌+◌, ◌*◌, ◌/◌, Bool, true, false, not, List, length, None, Option, Result, nat_le, nat_lt}
use Rattle.std.specs.Result.{result_map_both}
use Rattle.refusal.specs.declared.Refusal.{Refusal}
use Rattle.refusal.specs.declared.Refusal.TheVariants.{NoItem, WrongPhase, StrangeReading}
use Rattle.refusal.specs.Refusals.{refuse, unless, answered}
use Rattle.wire.specs.declared.message.Letter.{Letter}
use Rattle.wire.specs.declared.message.Letter.TheVariants.{OfCells, OfBits}
use Rattle.wire.specs.Items.{cell_at}
use Rattle.wire.specs.Bits.{bit_at}
use Rattle.wire.specs.Messages.{Parts}

-- whether a message with this letter has cells
abbrev pub has_cells : Letter → Bool
has_cells (OfCells l) = true
has_cells (OfBits l) = false

-- the checks of asking for an item; `wrong` is whether the message has the other sort, `short` whether its body ends before the item
abbrev pub item_refusal : Parts → Bool → Bool → ℕ → Option Refusal
item_refusal p wrong short i = refuse (nat_le p.count i) NoItem (refuse wrong WrongPhase (refuse short StrangeReading None))

-- the cell of an item
abbrev pub cell_answer : {X : Type 0} → ℕ → (List ℕ → Option X) → Parts → ℕ → Result (Option X) Refusal
cell_answer w reads p i =
    unless (item_refusal p (not (has_cells p.front.letter)) (nat_lt (length p.rest) ((i + 1) * (w + 1))) i)
    (result_map_both (λ c. c) (λ _. StrangeReading) (cell_at w reads p.rest i))

-- the bit of an item
abbrev pub bit_answer : Parts → ℕ → Result Bool Refusal
bit_answer p i =
    answered (item_refusal p (has_cells p.front.letter) (nat_le (length p.rest) (i / 8)) i) (bit_at p.rest i)
