-- A line whose parts were read answers as its closing does, and strange where the marks, which are read last, are strange.
use Rattle.std.proofs.Common.{◌≡◌, ℕ, Bool, true, false, cond, not, ◌&&◌, ltb, leb, List, [], length, drop, Some, Option, refl}
use Rattle.std.proofs.lemmas.Bool.{leb-true, le-ltb, and_parts}
use Rattle.std.specs.List.{slice_get}
use Rattle.closing.specs.declared.types.ItemClose.{ItemClose}
use Rattle.lines.specs.Digits.{and_then}
use Rattle.lamphouse.specs.Grammar.{all_of, cell_of, mark_in, entries_of, close_of, gives_cells, cells_in, marks_in, from_parts, strip_answer, fields_answer}

module _ {R : Type 0} (meaning : R → ℕ) (reads : List ℕ → Option R) (fs : List (List ℕ)) (a : ItemClose) where
  -- the marks are wanted where the cells are not
  marks_where : (b : Bool) (x : Option (List ℕ)) → cond (not b) x (Some []) ≡ cond b (Some []) x
  marks_where true x = refl
  marks_where false x = refl

  pub whole_line : (f es : List ℕ) (cells : List (Option R)) (b : Bool) (marks : Option (List ℕ)) → (leb 8 (length fs) && leb (length fs) 24) ≡ true → b ≡ gives_cells a
      → close_of fs ≡ Some a → slice_get fs 7 ≡ Some f → entries_of f ≡ Some es
      → cond b (all_of (cell_of reads) (drop 8 fs)) (Some []) ≡ Some cells → cond (not b) (all_of mark_in (drop 8 fs)) (Some []) ≡ marks
      → fields_answer meaning reads fs ≡ from_parts (and_then marks (λ ms. Some (strip_answer meaning reads a es cells ms)))
  whole_line f es cells b marks within e close seventh entries heard voted =
      let parts = and_parts (leb 8 (length fs)) (leb (length fs) 24) within in
      let l : ltb (length fs) 8 ≡ false = le-ltb (length fs) 8 (leb-true 8 (length fs) parts.0) in
      let h : ltb 24 (length fs) ≡ false = le-ltb 24 (length fs) (leb-true (length fs) 24 parts.1) in
      let c : cells_in meaning reads a fs ≡ Some cells = rw e at heard in
      let m : marks_in meaning reads a fs ≡ marks = rw (marks_where, e) at voted in
      rw (l, h, close, seventh, entries, c, m)
