-- The table of nodes and the boards: how they are read and written.
use Rattle.std.specs.Prelude.{ℕ, zero, suc, ◌+◌, ◌*◌, ◌/◌, ◌%◌, Bool, false, cond, not, ◌&&◌, List, [], length, replicate, None, count_by, Option, nat_le, slice_index, slice_index_or, slice_set}
use Rattle.std.specs.List.{range_with_len}
use Rattle.board.specs.declared.states.Node.{Node}
use Rattle.board.specs.declared.states.Table.{Table}

-- xs with f k at each place k below n
abbrev pub written : {X : Type 0} → ℕ → (ℕ → X) → List X → List X
written zero f xs = xs
written (suc k) f xs = slice_set (written k f xs) k (f k)

-- the node of a new setup
abbrev pub new_node : Node
new_node = record { faulty = false; bits = replicate 16 false; decided = replicate 16 false; finals = replicate 16 false }

-- what is read past the end of the table
abbrev pub no_node : Node
no_node = record { faulty = false; bits = []; decided = []; finals = [] }

abbrev pub node_at : Table → ℕ → Node
node_at t i = slice_index_or t.nodes i no_node

abbrev pub faulty_at : Table → ℕ → Bool
faulty_at t i = (node_at t i).faulty

-- node i's bit of item c
abbrev pub bit_at : Table → ℕ → ℕ → Bool
bit_at t i c = slice_index_or (node_at t i).bits c false

-- whether node i has decided item c
abbrev pub decided_at : Table → ℕ → ℕ → Bool
decided_at t i c = slice_index_or (node_at t i).decided c false

-- whether what node i sent to node j stays in all later steps
abbrev pub final_at : Table → ℕ → ℕ → Bool
final_at t i j = slice_index_or (node_at t i).finals j false

-- the table with other nodes
abbrev pub with_nodes : Table → List Node → Table
with_nodes t xs = record { n = t.n; m = t.m; nodes = xs; sizes = t.sizes }

-- the table with node i changed by f
abbrev pub with_node : Table → ℕ → (Node → Node) → Table
with_node t i f = with_nodes t (slice_set t.nodes i (f (node_at t i)))

-- how many places the values board and the scratch board need, and how many the sent board and the marks board
abbrev pub cells_needed : Table → ℕ
cells_needed t = t.n * t.m

abbrev pub marks_needed : Table → ℕ
marks_needed t = t.n * t.n * t.m

-- the place of node i's cell for item c on the values board
abbrev pub cell_place : Table → ℕ → ℕ → ℕ
cell_place t i c = i * t.m + c

-- the place of what sender i sent to receiver j for item c on the sent board and the marks board
abbrev pub mark_place : Table → ℕ → ℕ → ℕ → ℕ
mark_place t i j c = (i * t.n + j) * t.m + c

-- node i's value for item c
abbrev pub value_at : {R : Type 0} → Table → List (Option R) → ℕ → ℕ → Option R
value_at t values i c = slice_index_or values (cell_place t i c) None

-- whether item c is undecided at node i, which is honest
abbrev pub undecided_at : Table → ℕ → ℕ → Bool
undecided_at t i c = not (faulty_at t i) && not (decided_at t i c)

-- how many of the first items are undecided at a node, which is honest
abbrev pub undecided_in : Node → ℕ → ℕ
undecided_in x items = count_by (λ c. not x.faulty && not (slice_index_or x.decided c false)) (range_with_len 0 items)

-- how many of the first items are undecided at node i, which is honest
abbrev pub undecided_of : Table → ℕ → ℕ → ℕ
undecided_of t i items = undecided_in (node_at t i) items

-- how many items of honest nodes are undecided
abbrev pub undecided_count : Table → ℕ
undecided_count t = count_by (λ k. undecided_at t (k / t.m) (k % t.m)) (range_with_len 0 (cells_needed t))

-- whether a board has the places that are needed
abbrev pub fits : {X : Type 0} → ℕ → List X → Bool
fits needed board = nat_le needed (length board)

-- what a close leaves of the mark at place k: 0, unless it is final
abbrev pub mark_kept : Table → ℕ → ℕ → ℕ
mark_kept t mark k = cond (final_at t (k / t.m / t.n) (k / t.m % t.n)) mark 0

-- the marks after a close: 0, but for those that are final
abbrev pub marks_after : Table → List ℕ → List ℕ
marks_after t marks = written (marks_needed t) (λ k. mark_kept t (slice_index marks k) k) marks
