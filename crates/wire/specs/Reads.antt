-- What reading octets as a message answers.
use Rattle.std.specs.Prelude.{ℕ, ◌+◌, not, ◌||◌, List, length, drop, Some, None, Ok, Err, Option, Result, ◌==◌, nat_le, nat_lt, slice_index}
use Rattle.std.specs.Result.{result_map_both}
use Rattle.refusal.specs.declared.Refusal.TheVariants.{BadSize, NoNode, Torn, StrangeLetter, OutOfTurn}
use Rattle.refusal.specs.declared.Fault.{Fault}
use Rattle.reading.specs.Octets.{pair_at}
use Rattle.wire.specs.declared.message.Letter.{Letter}
use Rattle.wire.specs.declared.message.Letter.TheVariants.{OfCells, OfBits}
use Rattle.wire.specs.declared.message.Message.{Message}
use Rattle.wire.specs.Letters.{letter_of, takes_step}
use Rattle.wire.specs.Faults.{in_message, check, bad_size}
use Rattle.wire.specs.Items.{cells_fault}
use Rattle.wire.specs.Bits.{bits_fault}
use Rattle.wire.specs.Messages.{Parts, Contents, heading, parts_of, contents_of, body_length}

-- the letter goes on to the later checks; an octet that is none is strange
abbrev pub with_letter : {X : Type 0} → Option Letter → (Letter → Result X Fault) → Result X Fault
with_letter None later = Err (in_message StrangeLetter 0)
with_letter (Some l) later = later l

-- the last check: the fault, or else the answer
abbrev pub unless_fault : {X : Type 0} → Option Fault → X → Result X Fault
unless_fault None x = Ok x
unless_fault (Some f) x = Err f

-- the fault of a body of m items
abbrev pub body_fault : {X : Type 0} → ℕ → (List ℕ → Option X) → Letter → ℕ → List ℕ → Option Fault
body_fault w reads (OfCells l) m body = cells_fault w reads body 0 m
body_fault w reads (OfBits l) m body = bits_fault m body

-- the parts of the octets of a message with this letter
abbrev pub parts_in : Letter → List ℕ → Parts
parts_in l o = record { front = heading l (pair_at o 1) (slice_index o 3); count = slice_index o 4; rest = drop 5 o }

-- the message's parts, or the fault of the first check that hits
abbrev pub read_answer : {X : Type 0} → ℕ → (List ℕ → Option X) → ℕ → ℕ → List ℕ → Result Parts Fault
read_answer w reads n m o =
    check (bad_size n || bad_size m) BadSize 0
    (check (nat_lt (length o) 5) Torn (length o)
    (with_letter (letter_of (slice_index o 0)) λ l.
    check (not (slice_index o 4 == m) || not (length o == 5 + body_length w l m)) Torn (length o)
    (check (nat_le n (slice_index o 3)) NoNode 3
    (check (not (takes_step l (pair_at o 1))) OutOfTurn 1
    (unless_fault (body_fault w reads l m (drop 5 o)) (parts_in l o))))))

-- what is read, by its parts
abbrev pub read_parts : Result Message Fault → Result Parts Fault
read_parts r = result_map_both parts_of (λ f. f) r

-- what the message says, or the fault
abbrev pub read_contents : {X : Type 0} → ℕ → (List ℕ → Option X) → ℕ → ℕ → List ℕ → Result (Contents X) Fault
read_contents w reads n m o = result_map_both (contents_of w reads) (λ f. f) (read_answer w reads n m o)
