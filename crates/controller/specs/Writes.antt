-- What writing a message answers, and what it leaves in the lent places.
use Rattle.std.specs.Prelude.{ℕ, ◌+◌, ◌*◌, Bool, cond, not, ◌||◌, List, [], ◌∷◌, map, length, Some, None, Err, Option, Result, ◌==◌, nat_eq, nat_lt}
use Rattle.std.specs.Result.{result_map_both}
use Rattle.refusal.specs.declared.Refusal.TheVariants.{BadSize, Torn, StrangeLetter, StrangeReading}
use Rattle.refusal.specs.declared.Fault.{Fault}
use Rattle.reading.specs.Bearings.{bearing_octets, bearing_reads}
use Rattle.reading.specs.Lamps.{lamp_octets, lamp_reads}
use Rattle.wire.specs.declared.message.Head.{Head}
use Rattle.wire.specs.declared.message.Letter.{Letter}
use Rattle.wire.specs.declared.message.Letter.TheVariants.{OfCells, OfBits}
use Rattle.wire.specs.Faults.{in_message, check, bad_size}
use Rattle.wire.specs.Items.{cells_fault}
use Rattle.wire.specs.Letters.{letter_of}
use Rattle.wire.specs.Messages.{Contents, with_cells, with_bits, heading, message_octets, cells_in}
use Rattle.wire.specs.Reads.{with_letter}
use Rattle.wire.specs.Writes.{contents_answer}
use Rattle.reading.specs.declared.kind.Kind.{Kind}
use Rattle.reading.specs.declared.kind.Kind.TheVariants.{Bearings, Lamps}
use Rattle.controller.specs.declared.types.MessageHead.{MessageHead}
use Rattle.reading.specs.Kinds.{kind_of}

-- the fault of the first of some octets that is no bit, from item i on
abbrev pub flags_fault : ℕ → List ℕ → Option Fault
flags_fault i [] = None
flags_fault i (x ∷ xs) = cond (nat_lt 1 x) (Some (in_message StrangeReading (5 + i))) (flags_fault (i + 1) xs)

-- the bits that octets are
abbrev pub flag_bits : List ℕ → List Bool
flag_bits o = map (λ x. nat_eq x 1) o

-- the fault, or else what later checks say
abbrev pub or_fault : {X : Type 0} → Option Fault → Result X Fault → Result X Fault
or_fault None later = later
or_fault (Some f) later = Err f

-- the checks of items in octets: of how many octets there are, and then of each item
abbrev pub items_checks : {X : Type 0} → ℕ → ℕ → Option Fault → Result X Fault → Result X Fault
items_checks given wanted fault later = check (not (given == wanted)) Torn given (or_fault fault later)

-- what a caller's head says, with a letter
abbrev pub head_with : {L : Type 0} → L → MessageHead → Head L
head_with l a = heading l a.step a.node

-- the octets of a message with these contents, or the writer's fault
abbrev pub contents_written : {R : Type 0} → ℕ → (R → List ℕ) → ℕ → ℕ → List ℕ → Contents R → Result (List ℕ) Fault
contents_written w octets n m place c = result_map_both (λ _. message_octets w octets c) (λ f. f) (contents_answer w n m c (length place))

-- the octets of the message of this letter with items in octets, or the fault
abbrev pub items_written : {R : Type 0} → ℕ → (R → List ℕ) → (List ℕ → Option R) → ℕ → MessageHead → List ℕ → List ℕ → Letter → Result (List ℕ) Fault
items_written w octets reads n a o place (OfCells l) =
    items_checks (length o) (a.items * (w + 1)) (cells_fault w reads o 0 a.items)
    (contents_written w octets n a.items place (with_cells (head_with l a) (cells_in w reads o a.items)))
items_written w octets reads n a o place (OfBits l) =
    items_checks (length o) a.items (flags_fault 0 o) (contents_written w octets n a.items place (with_bits (head_with l a) (flag_bits o)))

-- the same once the letter and the sizes are checked
abbrev pub kind_written : {R : Type 0} → ℕ → (R → List ℕ) → (List ℕ → Option R) → ℕ → MessageHead → List ℕ → List ℕ → Result (List ℕ) Fault
kind_written w octets reads n a o place =
    with_letter (letter_of a.letter) λ l.
    check (bad_size n || bad_size a.items) BadSize 0 (items_written w octets reads n a o place l)

-- the octets of the message in a kind, or the fault
abbrev pub written_by : Option Kind → ℕ → MessageHead → List ℕ → List ℕ → Result (List ℕ) Fault
written_by None n a o place = Err (in_message StrangeLetter 0)
written_by (Some Bearings) n a o place = kind_written 2 bearing_octets bearing_reads n a o place
written_by (Some Lamps) n a o place = kind_written 3 lamp_octets lamp_reads n a o place

-- the same by the kind's letter
abbrev pub message_written : ℕ → ℕ → MessageHead → List ℕ → List ℕ → Result (List ℕ) Fault
message_written kind n a o place = written_by (kind_of kind) n a o place
