-- Cells in octets: an octet 0 and zeros, or an octet 1 and a reading; w is the width of the kind.
use Rattle.std.specs.Prelude.{ℕ, zero, suc, ◌+◌, ◌*◌, Bool, cond, List, ◌∷◌, take, drop, replicate, Some, None, Ok, Err, Option, Result, ◌==◌, slice_index}
use Rattle.std.specs.List.{list_all}
use Rattle.refusal.specs.declared.Refusal.TheVariants.{StrangeReading}
use Rattle.refusal.specs.declared.Fault.{Fault}
use Rattle.refusal.specs.declared.Layer.{Layer}
use Rattle.refusal.specs.declared.Layer.TheVariants.{Kind, Message}

-- the octets of a cell
abbrev pub cell_octets : {X : Type 0} → ℕ → (X → List ℕ) → Option X → List ℕ
cell_octets w octets None = 0 ∷ replicate w 0
cell_octets w octets (Some r) = 1 ∷ octets r

-- whether all octets are 0
abbrev pub all_zero : List ℕ → Bool
all_zero o = list_all (λ x. x == 0) o

-- a cell with a reading, or the kind's layer where the kind has none
abbrev pub held : {X : Type 0} → Option X → Result (Option X) Layer
held None = Err Kind
held (Some r) = Ok (Some r)

-- the cell that an item's octets are, or the layer that finds them strange
abbrev pub cell_of : {X : Type 0} → (List ℕ → Option X) → List ℕ → Result (Option X) Layer
cell_of reads item =
    cond (slice_index item 0 == 0) (cond (all_zero (drop 1 item)) (Ok None) (Err Message))
    (cond (slice_index item 0 == 1) (held (reads (drop 1 item))) (Err Message))

-- the octets of an item in a body of cells
abbrev pub item_octets : ℕ → List ℕ → ℕ → List ℕ
item_octets w body i = take (w + 1) (drop (i * (w + 1)) body)

-- the cell that a body has at an item, or the layer that finds its octets strange
abbrev pub cell_at : {X : Type 0} → ℕ → (List ℕ → Option X) → List ℕ → ℕ → Result (Option X) Layer
cell_at w reads body i = cell_of reads (item_octets w body i)

-- the fault of octets that a layer finds strange at a place
abbrev pub strange_at : Layer → ℕ → Fault
strange_at layer place = record { refusal = StrangeReading; layer = layer; place = place }

-- the fault where octets are strange, or else the later fault
abbrev pub or_later : {X : Type 0} → Result X Layer → ℕ → Option Fault → Option Fault
or_later (Ok x) place later = later
or_later (Err layer) place later = Some (strange_at layer place)

-- the fault of the first wrong one of k items of a body, from item i on
abbrev pub cells_fault : {X : Type 0} → ℕ → (List ℕ → Option X) → List ℕ → ℕ → ℕ → Option Fault
cells_fault w reads body i zero = None
cells_fault w reads body i (suc k) =
    or_later (cell_at w reads body i) (5 + i * (w + 1)) (cells_fault w reads body (i + 1) k)
