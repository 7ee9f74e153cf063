-- Cells and bits that are written are found at their items.
use Rattle.std.proofs.Common.{◌≡◌, ℕ, zero, suc, ◌+◌, ◌*◌, ◌/◌, ◌%◌, ◌^◌, ◌<◌, Bool, true, false, cond, eqb, List, [], ◌∷◌, ◌++◌, map, length, get_or, take, drop, replicate, Some, None, Ok, Err, Option, sym, refl, ap, ◌∙◌, zero-mul, arith, shr-shr}
use native.Mathlib.Nat.{zero-div}
use Rattle.std.specs.List.{range_with_len, flat_map}
use Rattle.std.specs.Result.{result_unwrap_or}
use Rattle.std.proofs.lemmas.List.FromFn.{length-map-range_with_len, get_or-map-range_with_len}
use Rattle.std.proofs.lemmas.List.{take_at, drop_at, drop-drop, get_or-take, get_or-drop, ext_get_or}
use Rattle.refusal.specs.declared.Layer.TheVariants.{Message}
use Rattle.wire.specs.Items.{all_zero, cell_octets, held, cell_of, item_octets, cell_at}
use Rattle.wire.specs.Bits.{bit_number, octet_of, packed, bit_octets, bit_at}
use Rattle.wire.specs.Messages.{cells_in, bits_in}
use Rattle.wire.proofs.CellLaws.{rows_less, cell_long}

-- a list that is found element by element is that list
found : {X : Type 0} (f : ℕ → X) (xs : List X) (d : X) → ((i : ℕ) → i < length xs → f i ≡ get_or xs i d) → map f (range_with_len 0 (length xs)) ≡ xs
found f xs d h =
    ext_get_or d (map f (range_with_len 0 (length xs))) xs (length-map-range_with_len f 0 (length xs)) λ i l.
    let k : i < length xs = omega (arith, length-map-range_with_len f 0 (length xs)) in
    get_or-map-range_with_len f 0 (length xs) i i d k (omega arith) ∙ h i k

-- zeros are all zero
zeros_replicate : (k : ℕ) → all_zero (replicate k 0) ≡ true
zeros_replicate zero = refl
zeros_replicate (suc k) = zeros_replicate k

module _ {X : Type 0} (w : ℕ) (octets : X → List ℕ) (reads : List ℕ → Option X) (long : (r : X) → length (octets r) ≡ w)
    (back : (r : X) → reads (octets r) ≡ Some r) where
  -- a cell's octets are that cell
  cell_back : (cell : Option X) → cell_of reads (cell_octets w octets cell) ≡ Ok cell
  cell_back None = ap (λ b. cond b (Ok None) (Err Message)) (zeros_replicate w)
  cell_back (Some r) = ap held (back r)

  -- an item's octets are its cell's
  item_at : (cells : List (Option X)) (i : ℕ) → i < length cells
      → item_octets w (flat_map (cell_octets w octets) cells) i ≡ cell_octets w octets (get_or cells i None)
  item_at [] i h = absurd (omega arith)
  item_at (x ∷ xs) zero h =
      ap (λ n. take (w + 1) (drop n (cell_octets w octets x ++ flat_map (cell_octets w octets) xs))) (zero-mul (w + 1))
      ∙ take_at (cell_octets w octets x) (flat_map (cell_octets w octets) xs) (w + 1) (cell_long w octets long x)
  item_at (x ∷ xs) (suc i) h =
      let J = flat_map (cell_octets w octets) xs in
      let F = cell_octets w octets x in
      let m : suc i * (w + 1) ≡ w + 1 + i * (w + 1) = omega (arith, rows_less (suc i) i (w + 1) (omega arith)) in
      let d : drop (i * (w + 1)) (drop (w + 1) (F ++ J)) ≡ drop (w + 1 + i * (w + 1)) (F ++ J) = drop-drop (i * (w + 1)) (w + 1) (F ++ J) in
      let a : drop (w + 1) (F ++ J) ≡ J = drop_at F J (w + 1) (cell_long w octets long x) in
      ap (λ n. take (w + 1) (drop n (F ++ J))) m
      ∙ ap (take (w + 1)) (sym d)
      ∙ ap (λ y. take (w + 1) (drop (i * (w + 1)) y)) a
      ∙ item_at xs i (omega arith)

  -- each cell is found at its item
  pub cell_found : (cells : List (Option X)) (i : ℕ) → i < length cells
      → cell_at w reads (flat_map (cell_octets w octets) cells) i ≡ Ok (get_or cells i None)
  cell_found cells i h = ap (cell_of reads) (item_at cells i h) ∙ cell_back (get_or cells i None)

  -- and so are all of them
  pub cells_found : (cells : List (Option X)) → cells_in w reads (flat_map (cell_octets w octets) cells) (length cells) ≡ cells
  cells_found cells =
      found (λ i. result_unwrap_or (cell_at w reads (flat_map (cell_octets w octets) cells) i) None) cells None
      λ i h. ap (λ r. result_unwrap_or r None) (cell_found cells i h)

-- the bits of a number of bits
bit_of : (bs : List Bool) (j : ℕ) → octet_of bs / 2 ^ j % 2 ≡ bit_number (get_or bs j false)
bit_of [] j = ap (λ n. n % 2) (zero-div (2 ^ j))
bit_of (true ∷ bs) zero = omega arith
bit_of (false ∷ bs) zero = omega arith
bit_of (true ∷ bs) (suc j) =
    let s : (1 + 2 * octet_of bs) / 2 ^ 1 / 2 ^ j ≡ (1 + 2 * octet_of bs) / 2 ^ (1 + j) = shr-shr (1 + 2 * octet_of bs) 1 j in
    let e : (1 + 2 * octet_of bs) / 2 ^ 1 ≡ octet_of bs = omega arith in
    let k : suc j ≡ 1 + j = omega arith in
    ap (λ n. (1 + 2 * octet_of bs) / 2 ^ n % 2) k ∙ ap (λ n. n % 2) (sym s) ∙ ap (λ n. n / 2 ^ j % 2) e ∙ bit_of bs j
bit_of (false ∷ bs) (suc j) =
    let s : (0 + 2 * octet_of bs) / 2 ^ 1 / 2 ^ j ≡ (0 + 2 * octet_of bs) / 2 ^ (1 + j) = shr-shr (0 + 2 * octet_of bs) 1 j in
    let e : (0 + 2 * octet_of bs) / 2 ^ 1 ≡ octet_of bs = omega arith in
    let k : suc j ≡ 1 + j = omega arith in
    ap (λ n. (0 + 2 * octet_of bs) / 2 ^ n % 2) k ∙ ap (λ n. n % 2) (sym s) ∙ ap (λ n. n / 2 ^ j % 2) e ∙ bit_of bs j

-- an octet of eight bits
octet_at : (k q : ℕ) (bits : List Bool) → q < k → get_or (packed k bits) q 0 ≡ octet_of (take 8 (drop (8 * q) bits))
octet_at zero q bits h = absurd (omega arith)
octet_at (suc k) zero bits h = refl
octet_at (suc k) (suc q) bits h =
    let e : 8 * suc q ≡ 8 + 8 * q = omega arith in
    octet_at k q (drop 8 bits) (omega arith)
    ∙ ap (λ y. octet_of (take 8 y)) (drop-drop (8 * q) 8 bits ∙ ap (λ n. drop n bits) (sym e))

-- a bit is 1 where it is set
bit_is : (b : Bool) → eqb (bit_number b) 1 ≡ b
bit_is true = refl
bit_is false = refl

-- each bit is found at its item
pub bit_found : (bits : List Bool) (i : ℕ) → i < length bits → bit_at (bit_octets bits) i ≡ get_or bits i false
bit_found bits i h =
    let q : i / 8 < (length bits + 7) / 8 = omega arith in
    let o = octet_at ((length bits + 7) / 8) (i / 8) bits q in
    let part = take 8 (drop (8 * (i / 8)) bits) in
    let s : i % 8 < 8 = omega arith in
    let e : 8 * (i / 8) + i % 8 ≡ i = omega arith in
    let g : get_or part (i % 8) false ≡ get_or bits i false =
    get_or-take 8 (drop (8 * (i / 8)) bits) (i % 8) false s ∙ get_or-drop (8 * (i / 8)) bits (i % 8) false ∙ ap (λ n. get_or bits n false) e in
    ap (λ n. eqb (n / 2 ^ (i % 8) % 2) 1) o
    ∙ ap (λ n. eqb n 1) (bit_of part (i % 8))
    ∙ bit_is (get_or part (i % 8) false)
    ∙ g

-- and so are all of them
pub bits_found : (bits : List Bool) → bits_in (bit_octets bits) (length bits) ≡ bits
bits_found bits = found (bit_at (bit_octets bits)) bits false (bit_found bits)
