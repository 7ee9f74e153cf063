-- A message that is read answers for its items what its contents say.
use Rattle.std.proofs.Common.{◌≡◌, ℕ, zero, suc, ◌+◌, ◌*◌, ◌/◌, ◌<◌, ◌≤◌, false, List, length, get_or, drop, None, Ok, Option, sym, ap, ◌∙◌, subst, inl, inr, arith}
use Rattle.std.specs.Result.{result_unwrap_or}
use Rattle.std.proofs.lemmas.List.FromFn.{get_or-map-range_with_len}
use Rattle.std.proofs.lemmas.List.{length-drop}
use Rattle.std.proofs.lemmas.Bool.{lt-leb, le-ltb, cases_eq}
use Rattle.wire.specs.declared.message.Letter.{Letter}
use Rattle.wire.specs.declared.message.Letter.TheVariants.{OfCells, OfBits}
use Rattle.wire.specs.Items.{cell_at, cells_fault}
use Rattle.wire.specs.Bits.{octets_for, bit_at}
use Rattle.wire.specs.Messages.{Parts, contents_of}
use Rattle.wire.specs.Reads.{parts_in, read_answer}
use Rattle.wire.specs.Trips.{AnswersAt}
use Rattle.wire.proofs.CellLaws.{rows_less, row_fits}
use Rattle.wire.proofs.ReadLaws.{later_none, Told, told}

module _ {X : Type 0} (w : ℕ) (reads : List ℕ → Option X) where
  -- each item of a body without a fault is a cell
  each_cell : (body : List ℕ) (i k j : ℕ) → cells_fault w reads body i k ≡ None → i ≤ j → j < i + k
      → (x : Option X) × (cell_at w reads body j ≡ Ok x)
  each_cell body i zero j e l h = absurd (omega arith)
  each_cell body i (suc k) j e l h =
      let o = later_none (cell_at w reads body i) (5 + i * (w + 1)) (cells_fault w reads body (i + 1) k) e in
      elim (cases_eq i j) [
        | inl s ↦ (o.0.0, ap (cell_at w reads body) (sym s) ∙ o.0.1)
        | inr s ↦ each_cell body (i + 1) k j o.1 (omega arith) (omega arith)
      ]

  -- what is answered, by the letter
  said_by : (l : Letter) (n m i : ℕ) (o : List ℕ) → Told w reads n m o l → i < m
      → AnswersAt w reads (parts_in l o) i (contents_of w reads (parts_in l o))
  said_by (OfCells l) n m i o t h =
      let body = drop 5 o in
      let c = t.count in
      let s : length body ≡ m * (w + 1) = simp length-drop (omega (arith, t.size)) in
      let fit = row_fits i m (w + 1) (length body) h s in
      let row = rows_less (i + 1) i (w + 1) (omega arith) in
      let x = each_cell body 0 m i t.body (omega arith) (omega arith) in
      let e₁ = lt-leb (get_or o 4 0) i (omega arith) in
      let e₂ = le-ltb (length body) ((i + 1) * (w + 1)) (omega arith) in
      let g = get_or-map-range_with_len (λ j. result_unwrap_or (cell_at w reads body j) None) 0 (get_or o 4 0) i i None (omega arith) (omega arith) in
      simp (e₁, e₂, x.1) (ap Ok (sym (g ∙ ap (λ r. result_unwrap_or r None) x.1)))
  said_by (OfBits l) n m i o t h =
      let body = drop 5 o in
      let c = t.count in
      let s : length body ≡ octets_for m = simp length-drop (omega (arith, t.size)) in
      let e₁ = lt-leb (get_or o 4 0) i (omega arith) in
      let e₂ = lt-leb (length body) (i / 8) (omega arith) in
      let g = get_or-map-range_with_len (bit_at body) 0 (get_or o 4 0) i i false (omega arith) (omega arith) in
      simp (e₁, e₂) (ap Ok (sym g))

  -- what is answered for an item of a message that is read
  pub as_said : (n m i : ℕ) (o : List ℕ) (p : Parts) → read_answer w reads n m o ≡ Ok p → i < m
      → AnswersAt w reads p i (contents_of w reads p)
  as_said n m i o p e h =
      let t = told w reads n m o p e in
      subst (λ (q : Parts). AnswersAt w reads q i (contents_of w reads q)) t.1.1 (said_by t.0 n m i o t.1.0 h)
