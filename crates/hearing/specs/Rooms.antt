-- What the parts of a close are given and do.
use Rattle.std.specs.Prelude.{ℕ, Bool, false, ◌&&◌, List, Option, slice_index_or, slice_set}
use Rattle.closing.specs.declared.types.Closed.{Closed}
use Rattle.board.specs.declared.states.Node.{Node}
use Rattle.board.specs.declared.states.Table.{Table}
use Rattle.board.specs.Tables.{fits, cells_needed, marks_needed}
use Rattle.hearing.specs.Closes.{new_bit, new_decided}

-- whether the four boards of a close are long enough
abbrev pub boards_fit : {R : Type 0} → Table → List (Option R) → List (Option R) → List (Option R) → List ℕ → Bool
boards_fit t values scratch sent marks =
    fits (cells_needed t) values && (fits (cells_needed t) scratch && (fits (marks_needed t) sent && fits (marks_needed t) marks))

-- the node with another bit of item c, and decided or not
abbrev pub with_vote : ℕ → Bool → Bool → Node → Node
with_vote c bit done x = record { faulty = x.faulty; bits = slice_set x.bits c bit; decided = slice_set x.decided c done; finals = x.finals }

-- the node, once it took in what a closing gives of item c
abbrev pub with_closed : {R : Type 0} → ℕ → Closed R → Node → Node
with_closed c v x = with_vote c (new_bit v (slice_index_or x.bits c false)) (new_decided v (slice_index_or x.decided c false)) x
