-- What writing a message answers, and what it leaves in the lent place.
use Rattle.std.specs.Prelude.{ℕ, ◌+◌, ◌*◌, not, ◌||◌, List, ◌++◌, length, drop, Ok, Err, Result, ◌==◌, nat_le, nat_lt}
use Rattle.refusal.specs.declared.Refusal.TheVariants.{BadSize, Short, NoNode, Torn, OutOfTurn}
use Rattle.refusal.specs.declared.Fault.{Fault}
use Rattle.wire.specs.declared.message.Letter.{Letter}
use Rattle.wire.specs.declared.message.Head.{Head}
use Rattle.wire.specs.Letters.{takes_step}
use Rattle.wire.specs.Faults.{check, bad_size}
use Rattle.wire.specs.Bits.{octets_for}
use Rattle.wire.specs.Messages.{Contents, with_cells, with_bits, cells_head, bits_head}

-- the checks of a head and of the number of cells or bits that are given with it, and then what later checks say
abbrev pub head_checks : {X : Type 0} → Head Letter → ℕ → ℕ → ℕ → Result X Fault → Result X Fault
head_checks h n m given later =
    check (bad_size n || bad_size m) BadSize 0
    (check (not (given == m)) Torn given
    (check (nat_le n h.node) NoNode 3
    (check (not (takes_step h.letter h.step)) OutOfTurn 1 later)))

-- the last check, that of a place of so many octets, and then the length that is written
abbrev pub room_check : ℕ → ℕ → Result ℕ Fault
room_check long places = check (nat_lt places long) Short 0 (Ok long)

-- the length of a message whose body takes so many octets, or the fault of the first check that hits
abbrev pub write_answer : Head Letter → ℕ → ℕ → ℕ → ℕ → ℕ → Result ℕ Fault
write_answer h n m given size places = head_checks h n m given (room_check (5 + size) places)

-- the same for the contents of a message
abbrev pub contents_answer : {X : Type 0} → ℕ → ℕ → ℕ → Contents X → ℕ → Result ℕ Fault
contents_answer w n m (with_cells h cells) places = write_answer (cells_head h) n m (length cells) (m * (w + 1)) places
contents_answer w n m (with_bits h bits) places = write_answer (bits_head h) n m (length bits) (octets_for m) places

-- what a place holds after octets were written to its front, or nothing was
abbrev pub written : Result ℕ Fault → List ℕ → List ℕ → List ℕ
written (Ok k) o place = o ++ drop k place
written (Err f) o place = place
