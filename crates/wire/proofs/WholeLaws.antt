-- What is read was written.
use Rattle.std.proofs.Common.{◌≡◌, ℕ, zero, suc, ◌+◌, ◌-◌, ◌*◌, ◌/◌, ◌%◌, ◌^◌, ◌<◌, ◌≤◌, Bool, true, false, eqb, List, [], ◌∷◌, ◌++◌, map, length, get_or, take, drop, replicate, Some, None, Ok, Err, Option, sym, refl, ap, ◌∙◌, subst, inl, inr, ⊎_elim, mod-lt, pow-suc, zero-mul, arith, pow_pos}
use lib.Pow.{split}
use Rattle.std.specs.List.{range_with_len, flat_map}
use Rattle.std.specs.Result.{result_unwrap_or}
use Rattle.std.proofs.lemmas.List.FromFn.{length-map-range_with_len}
use Rattle.std.proofs.lemmas.List.{take_at, drop_at, drop_all, drop-drop, take_all, take-append-drop, length-append, length-take, length-take-le, length-drop, get_or-drop, get_or-take, get_or_past}
use Rattle.std.proofs.lemmas.Bool.{and_parts, eq-eqb, eqb-true, lt-leb, le-ltb, cases_lt, cases_eq}
use Rattle.refusal.specs.declared.Layer.TheVariants.{Kind, Message}
use Rattle.reading.specs.Octets.{pair_at}
use Rattle.wire.specs.declared.message.Letter.{Letter}
use Rattle.wire.specs.declared.message.Letter.TheVariants.{OfCells, OfBits}
use Rattle.wire.specs.Items.{cell_octets, all_zero, held, cell_of, item_octets, cell_at, cells_fault}
use Rattle.wire.specs.Bits.{octet_of, octets_for, packed, bit_octets, bits_fault}
use Rattle.wire.specs.Messages.{Contents, Parts, heading, head_octets, body_length, message_octets, cells_in, bits_in, contents_of}
use Rattle.wire.specs.Reads.{parts_in, read_answer, read_contents}
use Rattle.wire.specs.Writes.{write_answer, contents_answer}
use Rattle.wire.proofs.CheckLaws.{size_is, none_some, err_ok, cond_ways, mapped_ok}
use Rattle.wire.proofs.ReadLaws.{later_none, Told, told}
use Rattle.wire.proofs.CellLaws.{rows_less, row_fits}
use Rattle.wire.proofs.FoundLaws.{bits_found}

-- each element is an octet
abbrev Octets : List ℕ → Type 0
Octets o = (i : ℕ) → get_or o i 0 < 256

-- what is left of octets are octets
octets_drop : (k : ℕ) (o : List ℕ) → Octets o → Octets (drop k o)
octets_drop k o b i = omega (arith, get_or-drop k o i 0, b (k + i))

-- the front of octets are octets
octets_take : (k : ℕ) (o : List ℕ) → Octets o → Octets (take k o)
octets_take k o b i = elim (cases_lt i k) [
  | inl h ↦ omega (arith, get_or-take k o i 0 h, b i)
  | inr h ↦
      let l : length (take k o) ≤ i = simp length-take (omega arith) in
      omega (arith, get_or_past (take k o) i 0 l)
]

-- the first of some octets and the rest
first : (o : List ℕ) → 1 ≤ length o → o ≡ get_or o 0 0 ∷ drop 1 o
first [] h = absurd (omega arith)
first (a ∷ o) h = refl

-- the first five of octets and the rest
five : (o : List ℕ) → 5 ≤ length o → o ≡ get_or o 0 0 ∷ get_or o 1 0 ∷ get_or o 2 0 ∷ get_or o 3 0 ∷ get_or o 4 0 ∷ drop 5 o
five [] h = absurd (omega arith)
five (a ∷ []) h = absurd (omega arith)
five (a ∷ b ∷ []) h = absurd (omega arith)
five (a ∷ b ∷ c ∷ []) h = absurd (omega arith)
five (a ∷ b ∷ c ∷ d ∷ []) h = absurd (omega arith)
five (a ∷ b ∷ c ∷ d ∷ e ∷ o) h = refl

-- octets that are all zero are zeros
zeros_are : (xs : List ℕ) → all_zero xs ≡ true → xs ≡ replicate (length xs) 0
zeros_are [] e = refl
zeros_are (x ∷ xs) e =
    let p = and_parts (eqb x 0) (all_zero xs) e in
    let q = eqb-true x 0 p.0 in
    let r = zeros_are xs p.1 in
    cc

-- a cell that is held has a reading of the kind
held_some : {X : Type 0} (o : Option X) (c : Option X) → held o ≡ Ok c → (r : X) × ((o ≡ Some r) × (c ≡ Some r))
held_some (Some r) c e = (r, (refl, cc))
held_some None c e = err_ok Kind c e

-- a number with no bit from the k-th on
div_zero : (x k : ℕ) → x / 2 ^ k ≡ 0 → x < 2 ^ k
div_zero x k e = omega (arith, split x k, ap (λ n. n * 2 ^ k) e, mod-lt x (pow_pos k))

-- the bits of a number
bits_of : (k x : ℕ) → x < 2 ^ k → (bs : List Bool) × ((length bs ≡ k) × (octet_of bs ≡ x))
bits_of zero x h = ([], (refl, omega arith))
bits_of (suc k) x h =
    let p = pow-suc 2 k in
    let q : x / 2 < 2 ^ k = omega arith in
    let r = bits_of k (x / 2) q in
    elim (cases_eq (x % 2) 0) [
      | inl e ↦ (false ∷ r.0, (ap suc r.1.0, omega (arith, r.1.1)))
      | inr e ↦ (true ∷ r.0, (ap suc r.1.0, omega (arith, r.1.1)))
    ]

-- one octet
one : (o : List ℕ) → length o ≡ 1 → o ≡ get_or o 0 0 ∷ []
one [] h = absurd (omega arith)
one (a ∷ []) h = refl
one (a ∷ b ∷ o) h = absurd (omega arith)

-- two octets
two : (o : List ℕ) → length o ≡ 2 → o ≡ get_or o 0 0 ∷ get_or o 1 0 ∷ []
two [] h = absurd (omega arith)
two (a ∷ []) h = absurd (omega arith)
two (a ∷ b ∷ []) h = refl
two (a ∷ b ∷ c ∷ o) h = absurd (omega arith)

-- the last octet has no bit past the m-th
last_small : (m i u : ℕ) (body : List ℕ) → bits_fault m body ≡ None → length body - 1 ≡ i → 1 + (m - 1) % 8 ≡ u → get_or body i 0 < 2 ^ u
last_small m i u body e p q =
    ⊎_elim
    (λ a. let z = eqb-true (get_or body (length body - 1) 0 / 2 ^ (1 + (m - 1) % 8)) 0 a.0 in
    subst (λ (k : ℕ). get_or body k 0 < 2 ^ u) p
    (subst (λ (k : ℕ). get_or body (length body - 1) 0 < 2 ^ k) q (div_zero (get_or body (length body - 1) 0) (1 + (m - 1) % 8) z)))
    (λ a. none_some _ a.1)
    (cond_ways (eqb (get_or body (length body - 1) 0 / 2 ^ (1 + (m - 1) % 8)) 0) None _ None e)

-- octets without a fault are those of some bits
bits_are : (m : ℕ) (body : List ℕ) → 1 ≤ m → m ≤ 16 → length body ≡ octets_for m → Octets body → bits_fault m body ≡ None
    → (bits : List Bool) × ((length bits ≡ m) × (body ≡ packed (octets_for m) bits))
bits_are m body l h n b e = elim (cases_lt m 9) [
  | inl s ↦
      let k : (m + 7) / 8 ≡ 1 = omega arith in
      let d : length body ≡ 1 = omega arith in
      let x = last_small m 0 m body e (omega arith) (omega arith) in
      let r = bits_of m (get_or body 0 0) x in
      let t : take 8 r.0 ≡ r.0 = take_all 8 r.0 (omega (arith, r.1.0)) in
      let c : packed 1 r.0 ≡ get_or body 0 0 ∷ [] = ap (λ y. octet_of y ∷ []) t ∙ ap (λ y. y ∷ []) r.1.1 in
      (r.0, (r.1.0, one body d ∙ sym c ∙ ap (λ y. packed y r.0) (sym k)))
  | inr s ↦
      let k : (m + 7) / 8 ≡ 2 = omega arith in
      let d : length body ≡ 2 = omega arith in
      let x = last_small m 1 (m - 8) body e (omega arith) (omega arith) in
      let r = bits_of 8 (get_or body 0 0) (b 0) in
      let v = bits_of (m - 8) (get_or body 1 0) x in
      let t₁ : take 8 (r.0 ++ v.0) ≡ r.0 = take_at r.0 v.0 8 r.1.0 in
      let t₂ : drop 8 (r.0 ++ v.0) ≡ v.0 = drop_at r.0 v.0 8 r.1.0 in
      let t₃ : take 8 v.0 ≡ v.0 = take_all 8 v.0 (omega (arith, v.1.0)) in
      let c : packed 2 (r.0 ++ v.0) ≡ get_or body 0 0 ∷ get_or body 1 0 ∷ [] =
      ap (λ y. octet_of y ∷ octet_of (take 8 (drop 8 (r.0 ++ v.0))) ∷ []) t₁
      ∙ ap (λ y. octet_of r.0 ∷ octet_of (take 8 y) ∷ []) t₂
      ∙ ap (λ y. octet_of r.0 ∷ octet_of y ∷ []) t₃
      ∙ ap (λ y. y ∷ octet_of v.0 ∷ []) r.1.1
      ∙ ap (λ y. get_or body 0 0 ∷ y ∷ []) v.1.1 in
      let n₂ : length (r.0 ++ v.0) ≡ m = length-append r.0 v.0 ∙ omega (arith, r.1.0, v.1.0) in
      (r.0 ++ v.0, (n₂, two body d ∙ sym c ∙ ap (λ y. packed y (r.0 ++ v.0)) (sym k)))
]

-- octets without a fault are those of the bits that are found in them
bits_whole : (m : ℕ) (body : List ℕ) → 1 ≤ m → m ≤ 16 → length body ≡ octets_for m → Octets body → bits_fault m body ≡ None
    → bit_octets (bits_in body m) ≡ body
bits_whole m body l h n b e =
    let r = bits_are m body l h n b e in
    let s : body ≡ bit_octets r.0 = r.1.1 ∙ ap (λ k. packed (octets_for k) r.0) (sym r.1.0) in
    let t : bits_in body m ≡ r.0 = ap (λ o. bits_in o m) s ∙ ap (bits_in (bit_octets r.0)) (sym r.1.0) ∙ bits_found r.0 in
    ap bit_octets t ∙ sym s

module _ {X : Type 0} (w : ℕ) (octets : X → List ℕ) (reads : List ℕ → Option X)
    (whole : (o : List ℕ) (r : X) → ((i : ℕ) → get_or o i 0 < 256) → reads o ≡ Some r → octets r ≡ o) where
  -- octets that are a cell are that cell's
  cell_whole : (item : List ℕ) (cell : Option X) → length item ≡ w + 1 → Octets item → cell_of reads item ≡ Ok cell
      → cell_octets w octets cell ≡ item
  cell_whole item cell h b e =
      let s = first item (omega arith) in
      let n : length (drop 1 item) ≡ w = simp length-drop (omega arith) in
      ⊎_elim
      (λ a. ⊎_elim
      (λ z. let t : get_or item 0 0 ≡ 0 = eqb-true (get_or item 0 0) 0 a.0 in
      let d : drop 1 item ≡ replicate w 0 = zeros_are (drop 1 item) z.0 ∙ ap (λ k. replicate {A = ℕ} k 0) n in
      let q : cell ≡ None = cc z.1 in
      ap (cell_octets w octets) q ∙ sym (s ∙ cc (t, d)))
      (λ z. err_ok _ cell z.1)
      (cond_ways (all_zero (drop 1 item)) (Ok None) (Err Message) (Ok cell) a.1))
      (λ a. ⊎_elim
      (λ z. let t : get_or item 0 0 ≡ 1 = eqb-true (get_or item 0 0) 1 z.0 in
      let r = held_some (reads (drop 1 item)) cell z.1 in
      let d : octets r.0 ≡ drop 1 item = whole (drop 1 item) r.0 (octets_drop 1 item b) r.1.0 in
      ap (cell_octets w octets) r.1.1 ∙ sym (s ∙ cc (t, d)))
      (λ z. err_ok _ cell z.1)
      (cond_ways (eqb (get_or item 0 0) 1) (held (reads (drop 1 item))) (Err Message) (Ok cell) a.1))
      (cond_ways (eqb (get_or item 0 0) 0) _ _ (Ok cell) e)

  -- items without a fault are those of the cells that are found in them
  rest_whole : (body : List ℕ) (i k : ℕ) → length body ≡ (i + k) * (w + 1) → Octets body → cells_fault w reads body i k ≡ None
      → flat_map (cell_octets w octets) (map (λ j. result_unwrap_or (cell_at w reads body j) None) (range_with_len i k)) ≡ drop (i * (w + 1)) body
  rest_whole body i zero h b e =
      let p : i + 0 ≡ i = omega arith in
      sym (drop_all (i * (w + 1)) body (omega (arith, ap (λ n. n * (w + 1)) p)))
  rest_whole body i (suc k) h b e =
      let s = w + 1 in
      let f = cell_octets w octets in
      let o = later_none (cell_at w reads body i) (5 + i * s) (cells_fault w reads body (i + 1) k) e in
      let x = o.0.0 in
      let v : result_unwrap_or (cell_at w reads body i) None ≡ x = ap (λ r. result_unwrap_or r None) o.0.1 in
      let row : (i + 1) * s ≡ i * s + s = rows_less (i + 1) i s (omega arith) in
      let fit : i * s + s ≤ length body = row_fits i (i + suc k) s (length body) (omega arith) h in
      let n : length (item_octets w body i) ≡ s = length-take-le s (drop (i * s) body) (simp length-drop (omega arith)) in
      let c : f x ≡ item_octets w body i = cell_whole (item_octets w body i) x n (octets_take s _ (octets_drop (i * s) body b)) o.0.1 in
      let q : (i + suc k) ≡ (i + 1 + k) = omega arith in
      let r = rest_whole body (i + 1) k (h ∙ ap (λ y. y * s) q) b o.1 in
      let d : drop ((i + 1) * s) body ≡ drop s (drop (i * s) body) = ap (λ y. drop y body) row ∙ sym (drop-drop s (i * s) body) in
      ap (λ y. f y ++ flat_map f (map (λ j. result_unwrap_or (cell_at w reads body j) None) (range_with_len (i + 1) k))) v
      ∙ ap (λ y. y ++ flat_map f (map (λ j. result_unwrap_or (cell_at w reads body j) None) (range_with_len (i + 1) k))) c
      ∙ ap (λ y. item_octets w body i ++ y) (r ∙ d)
      ∙ take-append-drop s (drop (i * s) body)

  -- the same for the whole body
  cells_whole : (m : ℕ) (body : List ℕ) → length body ≡ m * (w + 1) → Octets body → cells_fault w reads body 0 m ≡ None
      → flat_map (cell_octets w octets) (cells_in w reads body m) ≡ body
  cells_whole m body h b e =
      let z : m ≡ 0 + m = omega arith in
      rest_whole body 0 m (h ∙ ap (λ y. y * (w + 1)) z) b e ∙ ap (λ y. drop y body) (zero-mul (w + 1))

  -- the octets are those of the head and the body that are read
  framed : (n m given : ℕ) (o body : List ℕ) (l : Letter) → Octets o → Told w reads n m o l → given ≡ m → body ≡ drop 5 o
      → head_octets (heading l (pair_at o 1) (get_or o 3 0)) given ++ body ≡ o
  framed n m given o body l b t g d =
      let k = t.letter in
      let hi : pair_at o 1 / 256 ≡ get_or o 1 0 = omega (arith, b 2) in
      let lo : pair_at o 1 % 256 ≡ get_or o 2 0 = omega (arith, b 2) in
      let c : given ≡ get_or o 4 0 = g ∙ sym t.count in
      cc (k, hi, lo, c, d) ∙ sym (five o t.long)

  -- the head and the number of items pass the writer's checks
  allowed : (n m given : ℕ) (o : List ℕ) (l : Letter) → Told w reads n m o l → given ≡ m
      → write_answer (heading l (pair_at o 1) (get_or o 3 0)) n m given (body_length w l m) (length o) ≡ Ok (length o)
  allowed n m given o l t g =
      let e₁ = t.nodes in
      let e₂ = t.items in
      let e₃ = eq-eqb given m g in
      let e₄ = lt-leb n (get_or o 3 0) t.sender in
      let e₅ = t.turn in
      let e₆ = le-ltb (length o) (5 + body_length w l m) (omega (arith, t.size)) in
      simp (e₁, e₂, e₃, e₄, e₅, e₆) (ap Ok (sym t.size))

  -- what is read, by its letter
  whole_by : (l : Letter) (n m : ℕ) (o : List ℕ) → Octets o → Told w reads n m o l
      → (message_octets w octets (contents_of w reads (parts_in l o)) ≡ o)
      × (contents_answer w n m (contents_of w reads (parts_in l o)) (length o) ≡ Ok (length o))
  whole_by (OfCells l) n m o b t =
      let g : length (cells_in w reads (drop 5 o) (get_or o 4 0)) ≡ m = length-map-range_with_len _ 0 (get_or o 4 0) ∙ t.count in
      let s : length (drop 5 o) ≡ m * (w + 1) = simp length-drop (omega (arith, t.size)) in
      let d = ap (λ k. flat_map (cell_octets w octets) (cells_in w reads (drop 5 o) k)) t.count ∙ cells_whole m (drop 5 o) s (octets_drop 5 o b) t.body in
      (framed n m _ o _ (OfCells l) b t g d, allowed n m _ o (OfCells l) t g)
  whole_by (OfBits l) n m o b t =
      let z = size_is m t.items in
      let g : length (bits_in (drop 5 o) (get_or o 4 0)) ≡ m = length-map-range_with_len _ 0 (get_or o 4 0) ∙ t.count in
      let s : length (drop 5 o) ≡ octets_for m = simp length-drop (omega (arith, t.size)) in
      let d = ap (λ k. bit_octets (bits_in (drop 5 o) k)) t.count ∙ bits_whole m (drop 5 o) z.0 z.1 s (octets_drop 5 o b) t.body in
      (framed n m _ o _ (OfBits l) b t g d, allowed n m _ o (OfBits l) t g)

  -- octets that are read were written
  pub whole_parts : (n m : ℕ) (o : List ℕ) (p : Parts) → Octets o → read_answer w reads n m o ≡ Ok p
      → (message_octets w octets (contents_of w reads p) ≡ o) × (contents_answer w n m (contents_of w reads p) (length o) ≡ Ok (length o))
  whole_parts n m o p b e =
      let t = told w reads n m o p e in
      subst
      (λ (q : Parts). (message_octets w octets (contents_of w reads q) ≡ o) × (contents_answer w n m (contents_of w reads q) (length o) ≡ Ok (length o)))
      t.1.1
      (whole_by t.0 n m o b t.1.0)

  -- the same by contents
  pub whole_again : (n m : ℕ) (o : List ℕ) (c : Contents X) → Octets o → read_contents w reads n m o ≡ Ok c
      → (message_octets w octets c ≡ o) × (contents_answer w n m c (length o) ≡ Ok (length o))
  whole_again n m o c b e =
      let t = mapped_ok (contents_of w reads) (read_answer w reads n m o) c e in
      subst
      (λ (q : Contents X). (message_octets w octets q ≡ o) × (contents_answer w n m q (length o) ≡ Ok (length o)))
      t.1.1
      (whole_parts n m o t.0 b t.1.0)
