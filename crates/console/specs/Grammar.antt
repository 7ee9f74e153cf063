-- The forms of the lines: what a line asks for, or the fault that is found in it.
use Rattle.std.specs.Prelude.{ℕ, zero, suc, ◌+◌, ◌-◌, min, Bool, true, false, not, ◌&&◌, ◌||◌, List, length, replicate, Ok, Err, Option, Result, ◌==◌, nat_lt, slice_set}
use Rattle.std.specs.List.{slice_get}
use Rattle.std.specs.Option.{ok_or, option_map, unwrap_or}
use Rattle.std.specs.Result.{result_and}
use Rattle.refusal.specs.declared.Refusal.{Refusal}
use Rattle.refusal.specs.declared.Refusal.TheVariants.{Torn, StrangeLetter, StrangeReading, OutOfTurn}
use Rattle.refusal.specs.declared.Fault.{Fault}
use Rattle.refusal.specs.declared.Layer.{Layer}
use Rattle.refusal.specs.declared.Layer.TheVariants as layer
use Rattle.law.specs.declared.calls.SetupCall.TheVariants.{MarkFaulty, Propose}
use Rattle.law.specs.declared.calls.Call.TheVariants.{SendValue, SendBit, SendFinal, Close, Decision}
use Rattle.lines.specs.Fields.{fields, place_of}
use Rattle.lines.specs.Digits.{and_then, decimal_of, hex_word_of}
use Rattle.spelling.specs.Cells.{cell_in}
use Rattle.reading.specs.declared.kind.Kind.{Kind}
use Rattle.reading.specs.Kinds.{kind_of}
use Rattle.console.specs.declared.types.Letter.{Letter}
use Rattle.console.specs.declared.types.Letter.TheVariants as letter
use Rattle.console.specs.declared.types.Turn.{Turn}
use Rattle.console.specs.declared.types.Command.{Command}
use Rattle.console.specs.declared.types.Command.TheVariants as command
use Rattle.console.specs.Letters.{by_octet, letter_in, takes_fields}
use Rattle.console.specs.Turns.{is_first, in_turn}

infixl 10 ◌>>=◌ ◌>>◌
-- a value goes on to f, and an error stays
abbrev pub ◌>>=◌ : {X Y E : Type 0} → Result X E → (X → Result Y E) → Result Y E
◌>>=◌ (Ok x) f = f x
◌>>=◌ (Err e) f = Err e

-- the first error, or else the second answer
abbrev pub ◌>>◌ : {X Y E : Type 0} → Result X E → Result Y E → Result Y E
◌>>◌ = result_and

-- a fault that the line has at a place
abbrev pub line_fault : Refusal → ℕ → Fault
line_fault e place = record { refusal = e; layer = layer.Line; place = place }

-- one check: the fault where the test hits
abbrev pub check : Bool → Fault → Result (Unit {0}) Fault
check true e = Err e
check false e = Ok tt

-- the kind that a field names
abbrev pub kind_in : List ℕ → Option Kind
kind_in = by_octet kind_of

-- the bit that a field writes in decimal; a number that does not fit an octet is given as 255, which is above 1 all the same
abbrev pub bit_in : List ℕ → Option ℕ
bit_in f = option_map (λ n. min n 255) (decimal_of f)

-- what the field at an index is read as; one that is read as nothing is strange to the layer, where it begins (the line has the field: the number of fields is checked first)
abbrev pub field_at : {X : Type 0} → (List ℕ → Option X) → Layer → List (List ℕ) → ℕ → Result X Fault
field_at reads l fs i = ok_or (and_then (slice_get fs i) reads) (record { refusal = StrangeReading; layer = l; place = unwrap_or (place_of fs i) 0 })

-- the number in a field
abbrev pub number_at : List (List ℕ) → ℕ → Result ℕ Fault
number_at = field_at decimal_of layer.Line

-- the kind in a field
abbrev pub kind_at : List (List ℕ) → ℕ → Result Kind Fault
kind_at = field_at kind_in layer.Line

-- the bit in a field
abbrev pub bit_at : List (List ℕ) → ℕ → Result ℕ Fault
bit_at = field_at bit_in layer.Line

-- the strip entry in a field
abbrev pub entry_at : List (List ℕ) → ℕ → Result ℕ Fault
entry_at = field_at hex_word_of layer.Line

-- the cell in a field
abbrev pub cell_at : {R : Type 0} → (List ℕ → Option R) → List (List ℕ) → ℕ → Result (Option R) Fault
cell_at parses = field_at (cell_in parses) layer.Kind

-- eight zeros, into which the first so many entries of a strip are put
abbrev pub entries_of : List (List ℕ) → ℕ → Result (List ℕ) Fault
entries_of fs zero = Ok (replicate 8 0)
entries_of fs (suc k) = do es ← entries_of fs k; e ← entry_at fs (k + 1); Ok (slice_set es k e)

-- what the fields of a line ask for, by its letter
abbrev pub command_of : {R : Type 0} → (List ℕ → Option R) → List (List ℕ) → Letter → Result (Command R) Fault
command_of parses fs letter.Make = do n ← number_at fs 1; m ← number_at fs 2; kind ← kind_at fs 3; Ok (command.Make n m kind)
command_of parses fs letter.Faulty = do node ← number_at fs 1; Ok (command.Prepare (MarkFaulty node))
command_of parses fs letter.Propose = do node ← number_at fs 1; item ← number_at fs 2; cell ← cell_at parses fs 3; Ok (command.Prepare (Propose node item cell))
command_of parses fs letter.Strip = do entries ← entries_of fs (length fs - 1); Ok (command.Strip entries (length fs - 1))
command_of parses fs letter.Open = Ok command.Open
command_of parses fs letter.Value = do sender ← number_at fs 1; receiver ← number_at fs 2; item ← number_at fs 3; cell ← cell_at parses fs 4; Ok (command.Call (SendValue sender receiver item cell))
command_of parses fs letter.Bit = do sender ← number_at fs 1; receiver ← number_at fs 2; item ← number_at fs 3; bit ← bit_at fs 4; Ok (command.Call (SendBit sender receiver item bit))
command_of parses fs letter.Final = do sender ← number_at fs 1; receiver ← number_at fs 2; Ok (command.Call (SendFinal sender receiver))
command_of parses fs letter.Close = Ok (command.Call Close)
command_of parses fs letter.Look = do node ← number_at fs 1; item ← number_at fs 2; Ok (command.Call (Decision node item))
command_of parses fs letter.End = Ok command.End

-- what a line asks for in a turn: the checks in their order, the first that hits
abbrev pub parsed : {R : Type 0} → (List ℕ → Option R) → Turn → List ℕ → Result (Command R) Fault
parsed parses turn line =
    let fs = fields 32 line in
    do
      check (length line == 0 || nat_lt 60 (length line)) (line_fault Torn (length line))
      l ← ok_or (letter_in fs) (line_fault StrangeLetter 0)
      check (is_first turn && not (in_turn turn l)) (line_fault OutOfTurn 0)
      check (not (takes_fields l (length fs - 1))) (line_fault Torn (length line))
      c ← command_of parses fs l
      check (not (in_turn turn l)) (line_fault OutOfTurn 0)
      Ok c
