-- The steps of reading and writing cells.
use Rattle.std.proofs.Common.{◌≡◌, ℕ, suc, ◌+◌, ◌-◌, ◌*◌, ◌<◌, ◌≤◌, List, length, Some, None, Ok, Err, Option, sym, ap, ◌∙◌, add-mul, one-mul, arith}
use Rattle.std.proofs.lemmas.List.{length-replicate}
use Rattle.refusal.specs.declared.Layer.{Layer}
use Rattle.wire.specs.Items.{strange_at, cell_octets, cell_at, or_later, cells_fault}

-- one item less
pub rows_less : (k j s : ℕ) → k ≡ j + 1 → k * s ≡ j * s + s
rows_less k j s e = rw (e, add-mul, one-mul)

-- one more of n items fits
pub row_fits : (i n s l : ℕ) → i < n → l ≡ n * s → i * s + s ≤ l
row_fits i n s l h e =
    let k = n - (i + 1) in
    let q : n ≡ i + (1 + k) = omega arith in
    let p : n * s ≡ i * s + (s + k * s) = ap (λ x. x * s) q ∙ rw (add-mul, add-mul, one-mul) in
    omega arith

module _ {X : Type 0} (reads : List ℕ → Option X) where
  -- one item of k more
  faults_more : (w k j i : ℕ) (body : List ℕ) → k ≡ j + 1
      → cells_fault w reads body i k ≡ or_later (cell_at w reads body i) (5 + i * (w + 1)) (cells_fault w reads body (i + 1) j)
  faults_more w k j i body e =
      let s : k ≡ suc j = omega arith in
      ap (cells_fault w reads body i) s

  -- an item whose octets are strange
  pub faults_stop : (w k j i : ℕ) (layer : Layer) (body : List ℕ) → k ≡ j + 1 → Err layer ≡ cell_at w reads body i
      → cells_fault w reads body i k ≡ Some (strange_at layer (5 + i * (w + 1)))
  faults_stop w k j i layer body e h =
      faults_more w k j i body e
      ∙ ap (λ x. or_later x (5 + i * (w + 1)) (cells_fault w reads body (i + 1) j)) (sym h)

  -- an item that is a cell
  pub faults_pass : (w k j i : ℕ) (cell : Option X) (body : List ℕ) → k ≡ j + 1 → Ok cell ≡ cell_at w reads body i
      → cells_fault w reads body i k ≡ cells_fault w reads body (i + 1) j
  faults_pass w k j i cell body e h =
      faults_more w k j i body e
      ∙ ap (λ x. or_later x (5 + i * (w + 1)) (cells_fault w reads body (i + 1) j)) (sym h)

-- every cell takes an octet more than a reading
pub cell_long : {X : Type 0} (w : ℕ) (f : X → List ℕ) → ((r : X) → length (f r) ≡ w) → (cell : Option X)
    → length (cell_octets w f cell) ≡ w + 1
cell_long w f long None = omega (arith, length-replicate {A = ℕ} w 0)
cell_long w f long (Some r) = omega (arith, long r)
