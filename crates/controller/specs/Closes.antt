-- The closing of one item that a caller asks for: its checks, and the octets that it answers.
use Rattle.std.specs.Prelude.{ℕ, ◌+◌, ◌/◌, ◌%◌, Bool, cond, not, ◌||◌, List, [], ◌∷◌, ◌++◌, length, is_some, Some, None, Ok, Err, Option, Result, ◌==◌, nat_lt}
use Rattle.refusal.specs.declared.Refusal.{Refusal}
use Rattle.refusal.specs.declared.Refusal.TheVariants.{Torn, StrangeLetter, StrangeReading}
use Rattle.refusal.specs.Refusals.{refuse, unless, answered}
use Rattle.reading.specs.Bearings.{bearing_meaning, bearing_octets, bearing_reads}
use Rattle.reading.specs.Lamps.{lamp_meaning, lamp_octets, lamp_reads}
use Rattle.reading.specs.Octets.{room}
use Rattle.coin.specs.Tosses.{odd, strip_refusal}
use Rattle.closing.specs.declared.types.ItemClose.{ItemClose}
use Rattle.closing.specs.declared.types.Closed.{Closed}
use Rattle.closing.specs.declared.types.Closed.TheVariants.{Polled, Graded, Voted}
use Rattle.closing.specs.Closings.{item_answer}
use Rattle.wire.specs.Bits.{bit_number}
use Rattle.wire.specs.Items.{cell_octets, cells_fault}
use Rattle.wire.specs.Messages.{cells_in}
use Rattle.reading.specs.declared.kind.Kind.{Kind}
use Rattle.reading.specs.declared.kind.Kind.TheVariants.{Bearings, Lamps}
use Rattle.controller.specs.declared.types.CloseRequest.{CloseRequest}
use Rattle.reading.specs.Kinds.{kind_of}
use Rattle.controller.specs.Strips.{tosses_in}

-- the closing that is asked for
abbrev pub asked : CloseRequest → ItemClose
asked a = record { n = a.n; node = a.node; step = a.step; item = a.item; bit = a.bit; decided = (a.decided == 1) }

-- whether what was heard is given as cells: in steps 1 and 2
abbrev pub gives_cells : CloseRequest → Bool
gives_cells a = a.step == 1 || a.step == 2

-- the octets of the cells that were heard
abbrev pub cells_given : CloseRequest → List ℕ → List ℕ
cells_given a heard = cond (gives_cells a) heard []

-- the marks that were heard
abbrev pub marks_given : CloseRequest → List ℕ → List ℕ
marks_given a heard = cond (gives_cells a) [] heard

-- the octets that a closing answers, w and octets being those of the kind
abbrev pub closed_octets : {R : Type 0} → ℕ → (R → List ℕ) → Closed R → List ℕ
closed_octets w octets (Polled value) = cell_octets w octets value
closed_octets w octets (Graded value grade bit) = cell_octets w octets value ++ (grade ∷ bit_number bit ∷ [])
closed_octets w octets (Voted bit decided) = bit_number bit ∷ bit_number decided ∷ []

-- the octets that a closing answers, where a place has room for them
abbrev pub placing : {R : Type 0} → ℕ → (R → List ℕ) → List ℕ → Result (Closed R) Refusal → Result (List ℕ) Refusal
placing w octets place (Err e) = Err e
placing w octets place (Ok c) = answered (room (length (closed_octets w octets c)) place) (closed_octets w octets c)

-- the checks of form: whole entries and whole cells, a flag that is 0 or 1 and no strange cell, and a strip
abbrev pub form_refusal : {R : Type 0} → ℕ → (List ℕ → Option R) → CloseRequest → List ℕ → List ℕ → Option Refusal
form_refusal w reads a strip cells =
    refuse (odd (length strip) || not (length cells % (w + 1) == 0)) Torn
    (refuse (nat_lt 1 a.decided || is_some (cells_fault w reads cells 0 (length cells / (w + 1)))) StrangeReading
    (strip_refusal (length strip / 2)))

-- what the closing answers, of cells in octets and marks
abbrev pub given_answer : {R : Type 0} → ℕ → (R → ℕ) → (List ℕ → Option R) → CloseRequest → List ℕ → List ℕ → List ℕ → Result (Closed R) Refusal
given_answer w meaning reads a strip cells marks =
    unless (form_refusal w reads a strip cells)
    (item_answer meaning (tosses_in strip) (asked a) (cells_in w reads cells (length cells / (w + 1))) marks)

-- the same of what was heard
abbrev pub heard_answer : {R : Type 0} → ℕ → (R → ℕ) → (List ℕ → Option R) → CloseRequest → List ℕ → List ℕ → Result (Closed R) Refusal
heard_answer w meaning reads a strip heard = given_answer w meaning reads a strip (cells_given a heard) (marks_given a heard)

-- the octets that the closing answers in a kind, or the refusal
abbrev pub close_by : Option Kind → CloseRequest → List ℕ → List ℕ → List ℕ → Result (List ℕ) Refusal
close_by None a strip heard place = Err StrangeLetter
close_by (Some Bearings) a strip heard place = placing 2 bearing_octets place (heard_answer 2 bearing_meaning bearing_reads a strip heard)
close_by (Some Lamps) a strip heard place = placing 3 lamp_octets place (heard_answer 3 lamp_meaning lamp_reads a strip heard)

-- the octets that the closing answers, or the refusal
abbrev pub close_answer : CloseRequest → List ℕ → List ℕ → List ℕ → Result (List ℕ) Refusal
close_answer a strip heard place = close_by (kind_of a.kind) a strip heard place
