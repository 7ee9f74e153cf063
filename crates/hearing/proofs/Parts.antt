-- The parts of a close.
use Rattle.std.proofs.Common.{◌≡◌, ℕ, ◌+◌, ◌<◌, ◌≤◌, Bool, true, false, ◌&&◌, List, ◌++◌, length, get_or, take, drop, Option, sym, ap, ◌∙◌, add-one, arith}
use Rattle.std.proofs.lemmas.List.{same_lists, take_at, length-take}
use Rattle.std.proofs.lemmas.Bool.{leb-true, and_parts}
use Rattle.closing.specs.declared.types.Closed.{Closed}
use Rattle.board.specs.declared.states.Node.{Node}
use Rattle.board.specs.declared.states.Table.{Table}
use Rattle.board.specs.Tables.{written, fits, node_at, faulty_at, bit_at, decided_at, cells_needed, marks_needed}
use Rattle.hearing.specs.Closes.{new_bit, new_decided}
use Rattle.hearing.specs.Rooms.{boards_fit, with_vote, with_closed}
use Rattle.board.proofs.Boards.{length_written, written_at, written_past, written_front}

module _ {R : Type 0} (t : Table) (i : ℕ) (f : ℕ → Closed R) where
  -- node i with the first k items closed
  abbrev pub node_part : ℕ → Node
  node_part k = record {
    faulty = faulty_at t i;
    bits = written k (λ c. new_bit (f c) (bit_at t i c)) (node_at t i).bits;
    decided = written k (λ c. new_decided (f c) (decided_at t i c)) (node_at t i).decided;
    finals = (node_at t i).finals;
  }

  -- one more item
  pub node_more : (c : ℕ) (x y : Node) (v : Closed R) → x ≡ node_part c → v ≡ f c → y ≡ with_closed c v x → y ≡ node_part (c + 1)
  node_more c x y v e p h =
      h
      ∙ ap (with_closed c v) e
      ∙ ap (λ (w : Closed R). with_closed c w (node_part c)) p
      ∙ ap (λ (b : Bool). with_vote c (new_bit (f c) b) (new_decided (f c) (get_or (node_part c).decided c false)) (node_part c))
      (written_past c (λ k. new_bit (f k) (bit_at t i k)) (node_at t i).bits c false (omega arith))
      ∙ ap (λ (b : Bool). with_vote c (new_bit (f c) (bit_at t i c)) (new_decided (f c) b) (node_part c))
      (written_past c (λ k. new_decided (f k) (decided_at t i k)) (node_at t i).decided c false (omega arith))
      ∙ ap node_part (sym (add-one c))

-- two boards that are written in full are alike
written_full : {X : Type 0} (n : ℕ) (f : ℕ → X) (xs ys : List X) → length xs ≡ n → length ys ≡ n → written n f xs ≡ written n f ys
written_full n f xs ys a b =
    same_lists (written n f xs) (written n f ys) (omega (arith, length_written n f xs, length_written n f ys, a, b)) (λ k d h.
    let l : k < n = omega (arith, h, length_written n f xs, a) in
    written_at n f xs k d l (omega arith) ∙ sym (written_at n f ys k d l (omega arith)))

-- values of which the front was copied from the scratch board
pub copied : {X : Type 0} (n : ℕ) (f : ℕ → X) (scratch scratch' values : List X) → n ≤ length scratch → n ≤ length values
    → scratch' ≡ written n f scratch → take n scratch' ++ drop n values ≡ written n f values
copied n f scratch scratch' values h l e =
    ap (λ xs. xs ++ drop n values)
    (ap (take n) (e ∙ sym (written_front n f scratch h))
    ∙ take_at (written n f (take n scratch)) (drop n scratch) n (omega (arith, length_written n f (take n scratch), length-take n scratch))
    ∙ written_full n f (take n scratch) (take n values) (omega (arith, length-take n scratch)) (omega (arith, length-take n values)))
    ∙ written_front n f values l

module _ {R : Type 0} (t : Table) (values scratch sent : List (Option R)) (marks : List ℕ) (h : boards_fit t values scratch sent marks ≡ true) where
  first : (fits (cells_needed t) values ≡ true) × ((fits (cells_needed t) scratch && (fits (marks_needed t) sent && fits (marks_needed t) marks)) ≡ true)
  first = and_parts (fits (cells_needed t) values) (fits (cells_needed t) scratch && (fits (marks_needed t) sent && fits (marks_needed t) marks)) h

  second : (fits (cells_needed t) scratch ≡ true) × ((fits (marks_needed t) sent && fits (marks_needed t) marks) ≡ true)
  second = and_parts (fits (cells_needed t) scratch) (fits (marks_needed t) sent && fits (marks_needed t) marks) first.1

  third : (fits (marks_needed t) sent ≡ true) × (fits (marks_needed t) marks ≡ true)
  third = and_parts (fits (marks_needed t) sent) (fits (marks_needed t) marks) second.1

  -- boards that fit are long enough
  pub room_of : (cells_needed t ≤ length values) × (cells_needed t ≤ length scratch) × (marks_needed t ≤ length sent) × (marks_needed t ≤ length marks)
  room_of = (
    leb-true (cells_needed t) (length values) first.0,
    leb-true (cells_needed t) (length scratch) second.0,
    leb-true (marks_needed t) (length sent) third.0,
    leb-true (marks_needed t) (length marks) third.1,
  )
