-- The message that an honest node sends: its length, its items, and the checks before it.
use Rattle.std.proofs.Common.{◌≡◌, ℕ, zero, suc, ◌+◌, ◌-◌, ◌*◌, ◌<◌, ◌≤◌, Bool, true, false, not, ◌&&◌, leb, ◌⊎◌, List, [], ◌∷◌, map, length, get_or, take, drop, Some, None, Ok, Err, Option, Result, sym, refl, ap, ap₂, ◌∙◌, inl, inr, zero-add, arith}
use Rattle.std.specs.List.{range_with_len, flat_map}
use Rattle.std.proofs.lemmas.List.FromFn.{length-map-range_with_len, fill_by_all}
use Rattle.std.proofs.lemmas.List.{length-append, length-take-le, length-drop, take_all, get_or-take, get_or-drop}
use Rattle.std.proofs.lemmas.Bool.{le-leb, lt-leb, leb-true, leb-false, eq-eqb, ne_eqb, le-ltb, cases_eq, and_parts, and_right}
use Rattle.refusal.specs.declared.Refusal.{Refusal}
use Rattle.refusal.specs.declared.Refusal.TheVariants.{Short, NoNode, FaultyNode, Over}
use Rattle.refusal.specs.declared.Fault.{Fault}
use Rattle.refusal.specs.Refusals.{refuse, answered}
use Rattle.board.specs.Tables.{node_at, faulty_at, bit_at, value_at, cells_needed}
use Rattle.agreement.specs.declared.states.Instance.{Instance}
use Rattle.agreement.specs.Phases.{step_number}
use Rattle.wire.specs.declared.message.Letter.{Letter}
use Rattle.wire.specs.declared.message.Letter.TheVariants.{OfCells, OfBits}
use Rattle.wire.specs.Letters.{takes_step}
use Rattle.wire.specs.Faults.{bad_size}
use Rattle.wire.specs.Items.{cell_octets}
use Rattle.wire.specs.Bits.{packed, octets_for}
use Rattle.wire.specs.Messages.{body_length, message_octets}
use Rattle.wire.specs.Writes.{contents_answer, written}
use Rattle.wire.proofs.CellLaws.{cell_long, rows_less, row_fits}
use Rattle.relay.specs.Own.{own_letter, contents_by, own_contents, own_octets, own_refusal, own_placed}

-- so many elements from a place on, each known by its number
pub row : {X : Type 0} (f : ℕ → X) (xs : List X) (start m : ℕ) (d : X) → start + m ≤ length xs → ((k : ℕ) → get_or xs (start + k) d ≡ f k) →
    take m (drop start xs) ≡ map f (range_with_len 0 m)
row f xs start m d h e =
    let l = length-drop start xs in
    fill_by_all f (take m (drop start xs)) m d (length-take-le m (drop start xs) (omega arith)) (λ k lt. get_or-take m (drop start xs) k d lt ∙ get_or-drop start xs k d ∙ e k)

-- the same where everything from the place on is taken first
row_part : {X : Type 0} (xs : List X) (start m : ℕ) → start + m ≤ length xs → take m (take (length xs - start) (drop start xs)) ≡ take m (drop start xs)
row_part xs start m h = ap (take m) (take_all (length xs - start) (drop start xs) (omega (arith, length-drop start xs)))

pub row_long : {X : Type 0} (xs : List X) (start m : ℕ) → start + m ≤ length xs → m ≡ length (take m (take (length xs - start) (drop start xs)))
row_long xs start m h = sym (ap length (row_part xs start m h) ∙ length-take-le m (drop start xs) (omega (arith, length-drop start xs)))

packed_long : (k : ℕ) (bs : List Bool) → length (packed k bs) ≡ k
packed_long zero bs = refl
packed_long (suc k) bs = ap suc (packed_long k (drop 8 bs))

module _ {R : Type 0} (w : ℕ) (octets : R → List ℕ) (long : (r : R) → length (octets r) ≡ w) where
  cells_long : (cells : List (Option R)) → length (flat_map (cell_octets w octets) cells) ≡ length cells * (w + 1)
  cells_long [] = omega arith
  cells_long (x ∷ xs) =
      length-append (cell_octets w octets x) (flat_map (cell_octets w octets) xs)
      ∙ omega (arith, cell_long w octets long x, cells_long xs, rows_less (suc (length xs)) (length xs) (w + 1) (omega arith))

  -- the length of a message
  pub octets_long : (l : Letter) (step i m : ℕ) (cells : List (Option R)) (bits : List Bool) → length cells ≡ m → length bits ≡ m →
      length (message_octets w octets (contents_by l step i cells bits)) ≡ 5 + body_length w l m
  octets_long (OfCells l) step i m cells bits e f =
      let k : length (flat_map (cell_octets w octets) cells) ≡ m * (w + 1) = cells_long cells ∙ ap (λ x. x * (w + 1)) e in
      omega arith
  octets_long (OfBits l) step i m cells bits e f =
      let k : length (packed (octets_for (length bits)) bits) ≡ octets_for m = packed_long (octets_for (length bits)) bits ∙ ap octets_for f in
      omega arith

  -- the length of an own message
  own_long : (s : Instance) (values : List (Option R)) (i : ℕ) → length (own_octets w octets s values i) ≡ 5 + body_length w (own_letter (step_number s)) s.table.m
  own_long s values i =
      octets_long (own_letter (step_number s)) (step_number s) i s.table.m _ _
      (length-map-range_with_len (value_at s.table values i) 0 s.table.m) (length-map-range_with_len (bit_at s.table i) 0 s.table.m)

  own_size : (s : Instance) (values : List (Option R)) (i m step k : ℕ) (l : Letter) → m ≡ s.table.m → step ≡ step_number s → l ≡ own_letter step →
      k ≡ 5 + body_length w l m → k ≡ length (own_octets w octets s values i)
  own_size s values i m step k l em es el ek =
      ek ∙ ap (λ x. 5 + body_length w x m) (el ∙ ap own_letter es) ∙ ap (λ x. 5 + body_length w (own_letter (step_number s)) x) em ∙ sym (own_long s values i)

-- a number of nodes or of items that is in range
good_size : (n : ℕ) → 1 ≤ n → n ≤ 16 → bad_size n ≡ false
good_size n a b = rw (ne_eqb n 0 (λ e. omega arith), le-ltb 16 n b)

-- something is sent in steps 1 to 302
pub own_turn : (step : ℕ) → 1 ≤ step → step ≤ 302 → takes_step (own_letter step) step ≡ true
own_turn step a b = elim (cases_eq step 1) [
  | inl one ↦ rw (one)
  | inr other ↦ elim (cases_eq step 2) [
    | inl two ↦ rw (two)
    | inr later ↦ rw (ne_eqb step 1 other, ne_eqb step 2 later, le-leb 3 step (omega arith), le-leb step 302 b)
  ]
]

-- a message that the writer accepts
pub write_accepted : {R : Type 0} (w n m : ℕ) (l : Letter) (step i : ℕ) (cells : List (Option R)) (bits : List Bool) (places : ℕ) →
    1 ≤ n → n ≤ 16 → 1 ≤ m → m ≤ 16 → length cells ≡ m → length bits ≡ m → i < n → takes_step l step ≡ true → 5 + body_length w l m ≤ places →
    contents_answer w n m (contents_by l step i cells bits) places ≡ Ok (5 + body_length w l m)
write_accepted w n m (OfCells l) step i cells bits places n₁ n₂ m₁ m₂ lc lb h t r =
    rw (good_size n n₁ n₂, good_size m m₁ m₂, eq-eqb (length cells) m lc, lt-leb n i h, t, le-ltb places (5 + m * (w + 1)) r)
write_accepted w n m (OfBits l) step i cells bits places n₁ n₂ m₁ m₂ lc lb h t r =
    rw (good_size n n₁ n₂, good_size m m₁ m₂, eq-eqb (length bits) m lb, lt-leb n i h, t, le-ltb places (5 + octets_for m) r)

-- the checks of a node, where they hit and where they do not
node_hit : {X : Type 0} (a b : Bool) (x : X) (e : Refusal) (later : Option Refusal) → Err e ≡ answered (refuse a NoNode (refuse b FaultyNode None)) x →
    refuse a NoNode (refuse b FaultyNode later) ≡ Some e
node_hit true b x e later h = let z : e ≡ NoNode = cc in ap Some (sym z)
node_hit false true x e later h = let z : e ≡ FaultyNode = cc in ap Some (sym z)
node_hit false false x e later h = let z : ◌≡◌ {A = ℕ} 0 1 = cc in absurd (omega arith)

node_passed : {X : Type 0} (a b : Bool) (x y : X) → Ok y ≡ answered (refuse a NoNode (refuse b FaultyNode None)) x → (a ≡ false) × (b ≡ false) × (y ≡ x)
node_passed true b x y h = let z : ◌≡◌ {A = ℕ} 0 1 = cc in absurd (omega arith)
node_passed false true x y h = let z : ◌≡◌ {A = ℕ} 0 1 = cc in absurd (omega arith)
node_passed false false x y h = let z : y ≡ x = cc in (refl, refl, z)

module _ {R : Type 0} (w : ℕ) (octets : R → List ℕ) (s : Instance) (values : List (Option R)) (i : ℕ) (place : List ℕ) where
  short_place : (length values < cells_needed s.table) ⊎ (length place < length (own_octets w octets s values i)) → own_refusal w octets s values i place ≡ Some Short
  short_place (inl a) = rw (lt-leb (cells_needed s.table) (length values) a)
  short_place (inr b) =
      rw (and_right (leb (cells_needed s.table) (length values)) (leb (length (own_octets w octets s values i)) (length place)) (lt-leb (length (own_octets w octets s values i)) (length place) b))

  module _ (a : cells_needed s.table ≤ length values) (b : length (own_octets w octets s values i) ≤ length place) where
    no_node : {X : Type 0} (x : X) (e : Refusal) → Err e ≡ answered (refuse (leb s.table.n i) NoNode (refuse (faulty_at s.table i) FaultyNode None)) x →
        own_refusal w octets s values i place ≡ Some e
    no_node x e h =
        rw (le-leb (cells_needed s.table) (length values) a, le-leb (length (own_octets w octets s values i)) (length place) b)
        (node_hit (leb s.table.n i) (faulty_at s.table i) x e (refuse (not (leb 1 (step_number s) && leb (step_number s) 302)) Over None) h)

    module _ (c : leb s.table.n i ≡ false) (d : faulty_at s.table i ≡ false) where
      over : (leb 1 (step_number s) && leb (step_number s) 302) ≡ false → own_refusal w octets s values i place ≡ Some Over
      over h = rw (le-leb (cells_needed s.table) (length values) a, le-leb (length (own_octets w octets s values i)) (length place) b, c, d, h)

      none_hits : (leb 1 (step_number s) && leb (step_number s) 302) ≡ true → own_refusal w octets s values i place ≡ None
      none_hits h = rw (le-leb (cells_needed s.table) (length values) a, le-leb (length (own_octets w octets s values i)) (length place) b, c, d, h)

-- what is written of a node's part of the values board and of its bits is its own message
module _ {R : Type 0} (s : Instance) (values : List (Option R)) (i : ℕ) where
  own_said : (m step : ℕ) (l : Letter) (cells : List (Option R)) (bits all : List Bool) → m ≡ s.table.m → step ≡ step_number s → l ≡ own_letter step →
      cells ≡ take m (drop (i * m) values) → bits ≡ take m (drop 0 all) → all ≡ (node_at s.table i).bits → i * m + m ≤ length values → m ≤ length all →
      contents_by l step i cells bits ≡ own_contents s values i
  own_said m step l cells bits all em es el ec eb ea hc hb =
      let t = s.table in
      let cells' = map (value_at t values i) (range_with_len 0 t.m) in
      let fc : cells ≡ cells' = ec ∙ row (λ c. get_or values (i * m + c) None) values (i * m) m None hc (λ k. refl) ∙ ap (λ k. map (λ c. get_or values (i * k + c) None) (range_with_len 0 k)) em in
      let zb : 0 + m ≤ length all = omega arith in
      let fb : bits ≡ map (bit_at t i) (range_with_len 0 t.m) = eb ∙ row (λ c. get_or all c false) all 0 m false zb (λ k. ap (λ j. get_or all j false) (zero-add k))
      ∙ ap (λ k. map (λ c. get_or all c false) (range_with_len 0 k)) em ∙ ap (λ xs. map (λ c. get_or xs c false) (range_with_len 0 t.m)) ea in
      ap (λ x. contents_by x step i cells bits) (el ∙ ap own_letter es) ∙ ap (λ x. contents_by (own_letter (step_number s)) x i cells bits) es
      ∙ ap (λ x. contents_by (own_letter (step_number s)) (step_number s) i x bits) fc ∙ ap (λ x. contents_by (own_letter (step_number s)) (step_number s) i cells' x) fb

  -- The message is written whole.
  pub record OwnWritten (w : ℕ) (octets : R → List ℕ) (place place' : List ℕ) (r : Result ℕ Fault) : Type 0 where
    pub answer : r ≡ Ok (length (own_octets w octets s values i))
    pub after : place' ≡ own_placed w octets s values i place

  own_written : (w : ℕ) (octets : R → List ℕ) → ((r : R) → length (octets r) ≡ w) → (n m step : ℕ) (l : Letter) (cells : List (Option R)) (bits all : List Bool) (place place' : List ℕ) (r : Result ℕ Fault) →
      n ≡ s.table.n → m ≡ s.table.m → step ≡ step_number s → l ≡ own_letter step → cells ≡ take m (drop (i * m) values) → bits ≡ take m (drop 0 all) → all ≡ (node_at s.table i).bits →
      i * m + m ≤ length values → m ≤ length all → 5 + body_length w l m ≤ length place → i < n → (leb 1 step && leb step 302) ≡ true →
      r ≡ contents_answer w n m (contents_by l step i cells bits) (length place) → place' ≡ written r (message_octets w octets (contents_by l step i cells bits)) place →
      OwnWritten w octets place place' r
  own_written w octets long n m step l cells bits all place place' r en em es el ec eb ea hc hb room h on er ep =
      let sizes = s.table.sizes in
      let low : 1 ≤ step = leb-true 1 step (and_parts (leb 1 step) (leb step 302) on).0 in
      let high : step ≤ 302 = leb-true step 302 (and_parts (leb 1 step) (leb step 302) on).1 in
      let lc : length cells ≡ m = ap length ec ∙ length-take-le m (drop (i * m) values) (simp length-drop (omega arith)) in
      let lb : length bits ≡ m = ap length eb ∙ length-take-le m (drop 0 all) hb in
      let turn : takes_step l step ≡ true = ap (λ x. takes_step x step) el ∙ own_turn step low high in
      let n₁ : 1 ≤ n = omega (arith, sizes.0) in
      let n₂ : n ≤ 16 = omega (arith, sizes.1) in
      let m₁ : 1 ≤ m = omega (arith, sizes.2) in
      let m₂ : m ≤ 16 = omega (arith, sizes.3) in
      let same = own_said m step l cells bits all em es el ec eb ea hc hb in
      let long' : 5 + body_length w l m ≡ length (own_octets w octets s values i) =
      sym (octets_long w octets long l step i m cells bits lc lb) ∙ ap (λ c. length (message_octets w octets c)) same in
      let answer : r ≡ Ok (length (own_octets w octets s values i)) = er ∙ write_accepted w n m l step i cells bits (length place) n₁ n₂ m₁ m₂ lc lb h turn room ∙ ap Ok long' in
      record {
        answer = answer;
        after = ep ∙ ap (λ c. written r (message_octets w octets c) place) same ∙ ap (λ x. written x (own_octets w octets s values i) place) answer;
      }

-- what is known of the message once a run's sizes, its step, and the message's letter and length are
module _ {R : Type 0} (w : ℕ) (octets : R → List ℕ) (long : (r : R) → length (octets r) ≡ w) (s : Instance) (values : List (Option R)) (i : ℕ) (place : List ℕ) (n m step k : ℕ) (l : Letter)
    (en : n ≡ s.table.n) (em : m ≡ s.table.m) (es : step ≡ step_number s) (el : l ≡ own_letter step) (ek : k ≡ 5 + body_length w l m) where
  needed : n * m ≡ cells_needed s.table
  needed = ap₂ ◌*◌ en em

  sized : k ≡ length (own_octets w octets s values i)
  sized = own_size w octets long s values i m step k l em es el ek

  -- a board or a place is short
  pub refused_short : (length values < n * m) ⊎ (length place < k) → own_refusal w octets s values i place ≡ Some Short
  refused_short (inl a) = short_place w octets s values i place (inl (omega (arith, needed)))
  refused_short (inr b) = short_place w octets s values i place (inr (omega (arith, sized)))

  module _ (board : n * m ≤ length values) (room : k ≤ length place) where
    board_fits : cells_needed s.table ≤ length values
    board_fits = omega (arith, needed)

    place_fits : length (own_octets w octets s values i) ≤ length place
    place_fits = omega (arith, sized)

    -- the node sends nothing
    pub refused_node : (e : Refusal) → Err e ≡ answered (refuse (leb s.table.n i) NoNode (refuse (faulty_at s.table i) FaultyNode None)) (node_at s.table i).bits →
        own_refusal w octets s values i place ≡ Some e
    refused_node e h = no_node w octets s values i place board_fits place_fits (node_at s.table i).bits e h

    module _ (bits : List Bool) (sends : Ok bits ≡ answered (refuse (leb s.table.n i) NoNode (refuse (faulty_at s.table i) FaultyNode None)) (node_at s.table i).bits) where
      passes : (leb s.table.n i ≡ false) × (faulty_at s.table i ≡ false) × (bits ≡ (node_at s.table i).bits)
      passes = node_passed (leb s.table.n i) (faulty_at s.table i) (node_at s.table i).bits bits sends

      within : i < n
      within = omega (arith, leb-false s.table.n i passes.0, en)

      -- its cells stand on the values board
      pub row_within : i * m + m ≤ length values
      row_within = omega (arith, row_fits i n m (n * m) within refl)

      -- nothing is sent any more
      pub refused_over : (leb 1 step && leb step 302) ≡ false → own_refusal w octets s values i place ≡ Some Over
      refused_over h = over w octets s values i place board_fits place_fits passes.0 passes.1 (ap (λ x. leb 1 x && leb x 302) (sym es) ∙ h)

      -- what the writer is given is written
      pub whole_written : m ≤ length bits → (leb 1 step && leb step 302) ≡ true → (place' : List ℕ) (r : Result ℕ Fault) →
          r ≡ contents_answer w n m (contents_by l step i (take m (take (length values - i * m) (drop (i * m) values))) (take m bits)) (length place) →
          place' ≡ written r (message_octets w octets (contents_by l step i (take m (take (length values - i * m) (drop (i * m) values))) (take m bits))) place →
          (own_refusal w octets s values i place ≡ None) × OwnWritten s values i w octets place place' r
      whole_written few on place' r er ep = (
        none_hits w octets s values i place board_fits place_fits passes.0 passes.1 (ap (λ x. leb 1 x && leb x 302) (sym es) ∙ on),
        own_written s values i w octets long n m step l (take m (take (length values - i * m) (drop (i * m) values))) (take m bits) bits place place' r
            en em es el (row_part values (i * m) m row_within) refl passes.2 row_within few (omega (arith, ek)) within on er ep,
      )
