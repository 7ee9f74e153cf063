-- What reading a message answers, and what it leaves in the lent places.
use Rattle.std.specs.Prelude.{ℕ, cond, List, map, length, Some, None, Ok, Err, Option, Result, nat_lt}
use Rattle.refusal.specs.declared.Refusal.TheVariants.{Short, StrangeLetter}
use Rattle.refusal.specs.declared.Fault.{Fault}
use Rattle.reading.specs.Bearings.{bearing_reads}
use Rattle.reading.specs.Lamps.{lamp_reads}
use Rattle.wire.specs.Bits.{bit_number}
use Rattle.wire.specs.Faults.{in_message, check}
use Rattle.wire.specs.Letters.{letter_octet}
use Rattle.wire.specs.Looks.{has_cells}
use Rattle.wire.specs.Messages.{Parts, bits_in}
use Rattle.wire.specs.Reads.{read_answer}
use Rattle.reading.specs.declared.kind.Kind.{Kind}
use Rattle.reading.specs.declared.kind.Kind.TheVariants.{Bearings, Lamps}
use Rattle.controller.specs.declared.types.MessageHead.{MessageHead}
use Rattle.reading.specs.Kinds.{kind_of}

-- the octets of bits, one for each
abbrev pub flags : List ℕ → ℕ → List ℕ
flags body count = map bit_number (bits_in body count)

-- the items of a message in octets: its body of cells, or an octet for each bit
abbrev pub items_octets : Parts → List ℕ
items_octets p = cond (has_cells p.front.letter) p.rest (flags p.rest p.count)

-- what a message says besides its items, as a caller is told it
abbrev pub told_head : Parts → MessageHead
told_head p = record { step = p.front.step; node = p.front.node; items = p.count; letter = letter_octet p.front.letter }

-- the check that a place has room for the items
abbrev pub items_room : {X : Type 0} → List ℕ → Parts → X → Result X Fault
items_room place p x = check (nat_lt (length place) (length (items_octets p))) Short 0 (Ok x)

-- the reader's answer, and then that check
abbrev pub with_room : List ℕ → Result Parts Fault → Result Parts Fault
with_room place (Err f) = Err f
with_room place (Ok p) = items_room place p p

-- the parts of the message that octets are in a kind, for n nodes and m items, or the fault
abbrev pub read_by : Option Kind → ℕ → ℕ → List ℕ → List ℕ → Result Parts Fault
read_by None n m o place = Err (in_message StrangeLetter 0)
read_by (Some Bearings) n m o place = with_room place (read_answer 2 bearing_reads n m o)
read_by (Some Lamps) n m o place = with_room place (read_answer 3 lamp_reads n m o)

-- the same by the kind's letter
abbrev pub message_read : ℕ → ℕ → ℕ → List ℕ → List ℕ → Result Parts Fault
message_read kind n m o place = read_by (kind_of kind) n m o place
