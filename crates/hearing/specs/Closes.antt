-- What the honest nodes hear, and what the close of a step makes of the table and the boards.
use Rattle.std.specs.Prelude.{ℕ, ◌/◌, ◌%◌, Bool, cond, List, map, None, Option, ◌==◌, slice_index, slice_index_or}
use Rattle.std.specs.List.{range_with_len}
use Rattle.closing.specs.declared.types.Step.{Step}
use Rattle.closing.specs.declared.types.ItemState.{ItemState}
use Rattle.closing.specs.declared.types.Closed.{Closed}
use Rattle.closing.specs.declared.types.Closed.TheVariants.{Polled, Graded, Voted}
use Rattle.closing.specs.Counting.{mark_of}
use Rattle.closing.specs.Closings.{closed}
use Rattle.board.specs.declared.states.Node.{Node}
use Rattle.board.specs.declared.states.Table.{Table}
use Rattle.board.specs.Tables.{written, node_at, faulty_at, bit_at, decided_at, with_nodes, cells_needed, mark_place, value_at}

-- how node i stands with item c
abbrev pub item_state : Table → ℕ → ℕ → ItemState
item_state t i c = record { node = i; item = c; bit = bit_at t i c; decided = decided_at t i c }

module _ {R : Type 0} (t : Table) (values sent : List (Option R)) (marks : List ℕ) where
  -- the cell that receiver j hears from node i for item c: an honest node's value, or what a faulty one sent it
  abbrev pub heard_cell : ℕ → ℕ → ℕ → Option R
  heard_cell j c i =
      cond (faulty_at t i)
      (cond (slice_index marks (mark_place t i j c) == 1) (slice_index_or sent (mark_place t i j c) None) None)
      (value_at t values i c)

  -- the cells that receiver j hears for item c, from node 0 on
  abbrev pub heard_cells : ℕ → ℕ → List (Option R)
  heard_cells j c = map (heard_cell j c) (range_with_len 0 t.n)

-- the mark that receiver j hears from node i for item c: that of an honest node's bit, or what a faulty one sent it
abbrev pub heard_mark : Table → List ℕ → ℕ → ℕ → ℕ → ℕ
heard_mark t marks j c i = cond (faulty_at t i) (slice_index marks (mark_place t i j c)) (mark_of (bit_at t i c))

-- the marks that receiver j hears for item c, from node 0 on
abbrev pub heard_marks : Table → List ℕ → ℕ → ℕ → List ℕ
heard_marks t marks j c = map (heard_mark t marks j c) (range_with_len 0 t.n)

-- the value, the bit and whether it is decided that a closing leaves, from those that stood
abbrev pub new_value : {R : Type 0} → Closed R → Option R → Option R
new_value (Polled v) old = v
new_value (Graded v g b) old = v
new_value (Voted b d) old = old

abbrev pub new_bit : {R : Type 0} → Closed R → Bool → Bool
new_bit (Polled v) old = old
new_bit (Graded v g b) old = b
new_bit (Voted b d) old = b

abbrev pub new_decided : {R : Type 0} → Closed R → Bool → Bool
new_decided (Polled v) old = old
new_decided (Graded v g b) old = old
new_decided (Voted b d) old = d

module _ {R : Type 0} (meaning : R → ℕ) (tosses : ℕ → ℕ → ℕ → Bool) (t : Table) (p : Step) (values sent : List (Option R)) (marks : List ℕ) where
  -- what the close gives node i of item c, on what was sent before it
  abbrev pub closed_at : ℕ → ℕ → Closed R
  closed_at i c =
      closed meaning tosses p (item_state t i c) (heard_cells t values sent marks i c) (heard_marks t marks i c)

  -- node i's value for item c after the close; a faulty node's stays
  abbrev pub value_after : ℕ → ℕ → Option R
  value_after i c =
      cond (faulty_at t i) (value_at t values i c) (new_value (closed_at i c) (value_at t values i c))

  -- a board of cells over which the values after the close were written
  abbrev pub values_over : List (Option R) → List (Option R)
  values_over board = written (cells_needed t) (λ k. value_after (k / t.m) (k % t.m)) board

  -- node i after the close; a faulty one stays
  abbrev pub node_after : ℕ → Node
  node_after i =
      cond (faulty_at t i) (node_at t i)
      (record {
        faulty = faulty_at t i;
        bits = written t.m (λ c. new_bit (closed_at i c) (bit_at t i c)) (node_at t i).bits;
        decided = written t.m (λ c. new_decided (closed_at i c) (decided_at t i c)) (node_at t i).decided;
        finals = (node_at t i).finals;
      })

  abbrev pub table_after : Table
  table_after = with_nodes t (written t.n node_after t.nodes)
