-- What messages say, and their octets.
use Rattle.std.specs.Prelude.{ℕ, ◌+◌, ◌*◌, Bool, List, [], ◌∷◌, ◌++◌, map, length, None, Option}
use Rattle.std.specs.List.{range_with_len, flat_map}
use Rattle.std.specs.Result.{result_unwrap_or}
use Rattle.reading.specs.Octets.{pair}
use Rattle.wire.specs.declared.message.CellLetter.{CellLetter}
use Rattle.wire.specs.declared.message.CellLetter.TheVariants.{Poll, Echo}
use Rattle.wire.specs.declared.message.BitLetter.{BitLetter}
use Rattle.wire.specs.declared.message.BitLetter.TheVariants.{Bits, Final}
use Rattle.wire.specs.declared.message.Letter.{Letter}
use Rattle.wire.specs.declared.message.Letter.TheVariants.{OfCells, OfBits}
use Rattle.wire.specs.declared.message.Head.{Head}
use Rattle.wire.specs.declared.message.Message.{Message}
use Rattle.wire.specs.declared.message.Message.TheVariants as message
use Rattle.wire.specs.Letters.{letter_octet}
use Rattle.wire.specs.Items.{cell_octets, cell_at}
use Rattle.wire.specs.Bits.{octets_for, bit_octets, bit_at}

-- a head of a letter, a step and a node
abbrev pub heading : {L : Type 0} → L → ℕ → ℕ → Head L
heading l s i = record { letter = l; step = s; node = i }

-- the head of a message of cells
abbrev pub cells_head : Head CellLetter → Head Letter
cells_head h = heading (OfCells h.letter) h.step h.node

-- the head of a message of bits
abbrev pub bits_head : Head BitLetter → Head Letter
bits_head h = heading (OfBits h.letter) h.step h.node

-- the first five octets of a message: its letter, its step, its node and the number of its items
abbrev pub head_octets : Head Letter → ℕ → List ℕ
head_octets h m = letter_octet h.letter ∷ (pair h.step ++ (h.node ∷ m ∷ []))

-- how many octets the body of m items takes
abbrev pub body_length : ℕ → Letter → ℕ → ℕ
body_length w (OfCells l) m = m * (w + 1)
body_length w (OfBits l) m = octets_for m

-- the parts of a message as read: its head, the number of its items and its body
pub record Parts : Type 0 where
  pub front : Head Letter
  pub count : ℕ
  pub rest : List ℕ

-- a message's parts, whoever lends its body
abbrev pub parts_of : Message → Parts
parts_of (message.Poll node items body) = record { front = heading (OfCells Poll) 1 node; count = items; rest = body.now }
parts_of (message.Echo node items body) = record { front = heading (OfCells Echo) 2 node; count = items; rest = body.now }
parts_of (message.Bits step node items body) = record { front = heading (OfBits Bits) step node; count = items; rest = body.now }
parts_of (message.Final step node items body) = record { front = heading (OfBits Final) step node; count = items; rest = body.now }

-- what a message says: its head, and of each item a cell or a bit
pub data Contents (X : Type 0) : Type 0 where
  with_cells : Head CellLetter → List (Option X) → Contents X
  with_bits : Head BitLetter → List Bool → Contents X

-- the octets of a message of cells
abbrev pub cells_message : {X : Type 0} → ℕ → (X → List ℕ) → Head CellLetter → List (Option X) → List ℕ
cells_message w octets h cells = head_octets (cells_head h) (length cells) ++ flat_map (cell_octets w octets) cells

-- the octets of a message of bits
abbrev pub bits_message : Head BitLetter → List Bool → List ℕ
bits_message h bits = head_octets (bits_head h) (length bits) ++ bit_octets bits

-- the octets of a message
abbrev pub message_octets : {X : Type 0} → ℕ → (X → List ℕ) → Contents X → List ℕ
message_octets w octets (with_cells h cells) = cells_message w octets h cells
message_octets w octets (with_bits h bits) = bits_message h bits

-- the cells of m items in a body
abbrev pub cells_in : {X : Type 0} → ℕ → (List ℕ → Option X) → List ℕ → ℕ → List (Option X)
cells_in w reads body m = map (λ i. result_unwrap_or (cell_at w reads body i) None) (range_with_len 0 m)

-- the bits of m items in a body
abbrev pub bits_in : List ℕ → ℕ → List Bool
bits_in body m = map (bit_at body) (range_with_len 0 m)

-- what a message with these parts says, by its letter
abbrev pub said : {X : Type 0} → ℕ → (List ℕ → Option X) → Parts → Letter → Contents X
said w reads p (OfCells l) = with_cells (heading l p.front.step p.front.node) (cells_in w reads p.rest p.count)
said w reads p (OfBits l) = with_bits (heading l p.front.step p.front.node) (bits_in p.rest p.count)

-- what a message with these parts says
abbrev pub contents_of : {X : Type 0} → ℕ → (List ℕ → Option X) → Parts → Contents X
contents_of w reads p = said w reads p p.front.letter
