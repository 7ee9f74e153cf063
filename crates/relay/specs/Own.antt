-- The message that an honest node sends in the step in force. Of the kind of reading, w is the width.
use Rattle.std.specs.Prelude.{ℕ, Bool, cond, not, ◌&&◌, List, ◌++◌, map, length, drop, None, Option, ◌==◌, nat_le}
use Rattle.std.specs.List.{range_with_len}
use Rattle.refusal.specs.declared.Refusal.{Refusal}
use Rattle.refusal.specs.declared.Refusal.TheVariants.{Short, NoNode, FaultyNode, Over}
use Rattle.refusal.specs.Refusals.{refuse}
use Rattle.board.specs.Tables.{faulty_at, bit_at, value_at, cells_needed, fits}
use Rattle.agreement.specs.declared.states.Instance.{Instance}
use Rattle.agreement.specs.Phases.{step_number}
use Rattle.wire.specs.declared.message.CellLetter.TheVariants.{Poll, Echo}
use Rattle.wire.specs.declared.message.BitLetter.TheVariants.{Bits}
use Rattle.wire.specs.declared.message.Letter.{Letter}
use Rattle.wire.specs.declared.message.Letter.TheVariants.{OfCells, OfBits}
use Rattle.wire.specs.Messages.{Contents, with_cells, with_bits, heading, message_octets}

-- the letter of what an honest node sends in a step: cells in steps 1 and 2, bits in all others
abbrev pub own_letter : ℕ → Letter
own_letter step = cond (step == 1) (OfCells Poll) (cond (step == 2) (OfCells Echo) (OfBits Bits))

-- what a message of node i says by its letter, where it has these cells and these bits
abbrev pub contents_by : {R : Type 0} → Letter → ℕ → ℕ → List (Option R) → List Bool → Contents R
contents_by (OfCells l) step i cells bits = with_cells (heading l step i) cells
contents_by (OfBits l) step i cells bits = with_bits (heading l step i) bits

-- what node i sends in the step in force: its value of each item, or its bit
abbrev pub own_contents : {R : Type 0} → Instance → List (Option R) → ℕ → Contents R
own_contents s values i =
    contents_by (own_letter (step_number s)) (step_number s) i
    (map (value_at s.table values i) (range_with_len 0 s.table.m)) (map (bit_at s.table i) (range_with_len 0 s.table.m))

module _ {R : Type 0} (w : ℕ) (octets : R → List ℕ) (s : Instance) (values : List (Option R)) (i : ℕ) where
  -- the octets of that message
  abbrev pub own_octets : List ℕ
  own_octets = message_octets w octets (own_contents s values i)

  -- the checks of writing it to a place: the values board and the place, the node, and whether something is sent in the step
  abbrev pub own_refusal : List ℕ → Option Refusal
  own_refusal place =
      refuse (not (fits (cells_needed s.table) values && fits (length own_octets) place)) Short
      (refuse (nat_le s.table.n i) NoNode
      (refuse (faulty_at s.table i) FaultyNode
      (refuse (not (nat_le 1 (step_number s) && nat_le (step_number s) 302)) Over None)))

  -- what the place holds after it: the octets, and behind them what stood there
  abbrev pub own_placed : List ℕ → List ℕ
  own_placed place = own_octets ++ drop (length own_octets) place
