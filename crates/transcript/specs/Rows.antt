-- The rows of an ended run as text.
use Rattle.std.specs.Prelude.{ℕ, zero, suc, List, [], ◌∷◌, ◌++◌}
use Rattle.board.specs.declared.states.Decision.{Decision}
use Rattle.spelling.specs.Answers.{row_text}
use Rattle.desk.specs.Views.{Held}
use Rattle.desk.specs.Desks.{row_of}

module _ {R : Type 0} (spelled : R → List ℕ) where
  -- a node's line; a node whose row is empty has none
  abbrev pub row_line : ℕ → List (Decision R) → List ℕ
  row_line node [] = []
  row_line node (d ∷ ds) = row_text spelled node (d ∷ ds)

  -- the lines of the nodes below a number, from the lowest up
  abbrev pub rows_below : Held R → ℕ → List ℕ
  rows_below h zero = []
  rows_below h (suc node) = rows_below h node ++ row_line node (row_of h node)

  -- the lines of all nodes, of which there are at most 16
  unfoldable pub rows_text : Held R → List ℕ
  rows_text h = rows_below h 16
