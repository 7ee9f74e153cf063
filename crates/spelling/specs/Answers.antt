-- The lines that answer: a refusal, a look at a decision, a node's row of decisions.
use Rattle.std.specs.Prelude.{ℕ, List, [], ◌∷◌, ◌++◌, map, codes}
use Rattle.std.specs.List.{flat_map}
use Rattle.refusal.specs.declared.Refusal.{Refusal}
use Rattle.refusal.specs.Refusals.{number}
use Rattle.board.specs.declared.states.Decision.{Decision}
use Rattle.board.specs.declared.states.Decision.TheVariants.{Undecided, Decided}
use Rattle.spelling.specs.Cells.{cell_text}
use Rattle.spelling.specs.Numbers.{digits}

-- fields, each behind a space
abbrev pub spaced : List (List ℕ) → List ℕ
spaced = flat_map (λ f. 32 ∷ f)

-- a line of a first field and further ones, parted by single spaces, and octet 10
abbrev pub line_text : List ℕ → List (List ℕ) → List ℕ
line_text first more = first ++ (spaced more ++ (10 ∷ []))

-- the line that a refused line is answered by: its number and the refusal's
abbrev pub refused_text : ℕ → Refusal → List ℕ
refused_text line refusal = line_text (digits line) (codes "refused" ∷ digits (number refusal) ∷ [])

-- a decision as a field: undecided, or the cell
abbrev pub result_text : {R : Type 0} → (R → List ℕ) → Decision R → List ℕ
result_text spelled Undecided = codes "open"
result_text spelled (Decided cell) = cell_text spelled cell

-- the line that a look is answered by: its number, the node, the item and the result
abbrev pub look_text : {R : Type 0} → (R → List ℕ) → ℕ → ℕ → ℕ → Decision R → List ℕ
look_text spelled line node item decision = line_text (digits line) (digits node ∷ digits item ∷ result_text spelled decision ∷ [])

-- the line of a node and its results
abbrev pub row_text : {R : Type 0} → (R → List ℕ) → ℕ → List (Decision R) → List ℕ
row_text spelled node results = line_text (digits node) (map (result_text spelled) results)
