-- A cell as a field.
use Rattle.std.specs.Prelude.{◌≡◌, ℕ, Bool, true, cond, List, [], ◌∷◌, Some, None, Option}
use Rattle.std.specs.Option.{option_map}
use Rattle.lines.specs.Fields.{fields, is_dash}

-- the cell that a field stands for: a dash for none, else the reading that it spells
abbrev pub cell_in : {R : Type 0} → (List ℕ → Option R) → List ℕ → Option (Option R)
cell_in parses f = cond (is_dash f) (Some None) (option_map Some (parses f))

-- a cell's field: a dash for none, else the reading's spelling
abbrev pub cell_text : {R : Type 0} → (R → List ℕ) → Option R → List ℕ
cell_text spelled None = 45 ∷ []
cell_text spelled (Some r) = spelled r

-- whether a cell's reading, if it has one, is within its type
abbrev pub cell_spellable : {R : Type 0} → (R → Bool) → Option R → Bool
cell_spellable spellable None = true
cell_spellable spellable (Some r) = spellable r

-- a cell's text is one field, and stands for that cell
pub record Returns {R : Type 0} (spelled : R → List ℕ) (parses : List ℕ → Option R) (c : Option R) : Type 0 where
  pub field : fields 32 (cell_text spelled c) ≡ cell_text spelled c ∷ []
  pub back : cell_in parses (cell_text spelled c) ≡ Some c
