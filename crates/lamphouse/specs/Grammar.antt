-- The line of one closing: its fields, and what it answers.
use Rattle.std.specs.Prelude.{ℕ, min, Bool, cond, ◌||◌, List, [], ◌∷◌, length, drop, Some, None, Err, Option, Result, ◌==◌, nat_le, nat_lt, slice_index}
use Rattle.std.specs.List.{slice_get}
use Rattle.std.specs.Option.{option_map}
use Rattle.refusal.specs.declared.Refusal.{Refusal}
use Rattle.refusal.specs.declared.Refusal.TheVariants.{Torn, StrangeReading}
use Rattle.refusal.specs.Refusals.{refuse, unless}
use Rattle.coin.specs.Tosses.{strip_toss, strip_refusal}
use Rattle.closing.specs.declared.types.ItemClose.{ItemClose}
use Rattle.closing.specs.declared.types.Closed.{Closed}
use Rattle.closing.specs.Closings.{item_answer}
use Rattle.lines.specs.Fields.{fields, number_at, is_dash}
use Rattle.lines.specs.Digits.{and_then, hex_word_of, hex_octets_of}

-- what every field gives, or none if one gives none
abbrev pub all_of : {X : Type 0} → (List ℕ → Option X) → List (List ℕ) → Option (List X)
all_of p [] = Some []
all_of p (f ∷ fs) = and_then (p f) (λ x. option_map (λ xs. x ∷ xs) (all_of p fs))

-- a strip's entries: a dash for none, or one to eight of four hexadecimal digits each, parted by commas
abbrev pub entries_of : List ℕ → Option (List ℕ)
entries_of f = cond (is_dash f) (Some []) (cond (nat_le (length (fields 44 f)) 8) (all_of hex_word_of (fields 44 f)) None)

-- a cell: a dash for none, or a reading's octets in hexadecimal
abbrev pub cell_of : {R : Type 0} → (List ℕ → Option R) → List ℕ → Option (Option R)
cell_of reads f = cond (is_dash f) (Some None) (and_then (hex_octets_of 8 f) (λ os. option_map Some (reads os)))

-- a mark: one octet in hexadecimal
abbrev pub mark_in : List ℕ → Option ℕ
mark_in f = option_map (λ os. slice_index os 0) (hex_octets_of 1 f)

-- a number that is 0 or 1, as a flag
abbrev pub flag_of : ℕ → Option Bool
flag_of d = cond (nat_lt 1 d) None (Some (d == 1))

-- the closing that is asked for: fields 1 to 6
abbrev pub close_of : List (List ℕ) → Option ItemClose
close_of fs =
    and_then (number_at fs 1) (λ n.
    and_then (number_at fs 2) (λ node.
    and_then (number_at fs 3) (λ step.
    and_then (number_at fs 4) (λ item.
    and_then (number_at fs 5) (λ bit.
    and_then (and_then (number_at fs 6) flag_of) (λ decided.
    Some (record { n = n; node = node; step = step; item = item; bit = min bit 255; decided = decided })))))))

-- whether what was heard is given as cells
abbrev pub gives_cells : ItemClose → Bool
gives_cells a = a.step == 1 || a.step == 2

-- the answer of a line whose parts were read, and strange where one was not
abbrev pub from_parts : {X : Type 0} → Option (Result X Refusal) → Result X Refusal
from_parts None = Err StrangeReading
from_parts (Some r) = r

module _ {R : Type 0} (meaning : R → ℕ) (reads : List ℕ → Option R) where
  -- the cells that were heard: the fields from 8 on, in steps 1 and 2
  abbrev pub cells_in : ItemClose → List (List ℕ) → Option (List (Option R))
  cells_in a fs = cond (gives_cells a) (all_of (cell_of reads) (drop 8 fs)) (Some [])

  -- the marks that were heard: the fields from 8 on, in all other steps
  abbrev pub marks_in : ItemClose → List (List ℕ) → Option (List ℕ)
  marks_in a fs = cond (gives_cells a) (Some []) (all_of mark_in (drop 8 fs))

  -- the closing under a strip with these entries
  abbrev pub strip_answer : ItemClose → List ℕ → List (Option R) → List ℕ → Result (Closed R) Refusal
  strip_answer a es cells marks = unless (strip_refusal (length es)) (item_answer meaning (λ node k c. strip_toss es k c) a cells marks)

  -- what a line with these fields answers
  abbrev pub fields_answer : List (List ℕ) → Result (Closed R) Refusal
  fields_answer fs =
      unless (refuse (nat_lt (length fs) 8 || nat_lt 24 (length fs)) Torn None)
      (from_parts
      (and_then (close_of fs) (λ a.
      and_then (and_then (slice_get fs 7) entries_of) (λ es.
      and_then (cells_in a fs) (λ cells.
      and_then (marks_in a fs) (λ marks.
      Some (strip_answer a es cells marks)))))))
