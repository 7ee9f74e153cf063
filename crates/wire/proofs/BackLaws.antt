-- What is written reads back.
use Rattle.std.proofs.Common.{◌≡◌, ℕ, zero, suc, ◌+◌, ◌-◌, ◌*◌, ◌/◌, ◌%◌, ◌^◌, ◌<◌, ◌≤◌, Bool, true, false, cond, not, ◌||◌, eqb, ltb, leb, List, [], ◌∷◌, ◌++◌, length, get_or, take, drop, Some, None, Ok, Option, sym, refl, ap, ◌∙◌, inl, inr, arith}
use native.Mathlib.Nat.{div-eq_of_lt}
use Rattle.std.specs.Result.{result_map_both}
use Rattle.std.specs.List.{flat_map}
use Rattle.std.proofs.lemmas.List.{length-append, length-take, length-drop}
use Rattle.std.proofs.lemmas.Bool.{eq-eqb, eqb-true, leb-false, or_parts, not-false, cases_lt}
use Rattle.refusal.specs.declared.Refusal.TheVariants.{BadSize, Short, NoNode, Torn, StrangeReading, OutOfTurn}
use Rattle.reading.specs.Octets.{pair_at}
use Rattle.wire.specs.declared.message.Letter.{Letter}
use Rattle.wire.specs.declared.message.Head.{Head}
use Rattle.wire.specs.Letters.{takes_step}
use Rattle.wire.specs.Faults.{in_message, bad_size}
use Rattle.wire.specs.Items.{cell_octets, or_later, cells_fault}
use Rattle.wire.specs.Bits.{octets_for, packed, bit_octets, bits_fault}
use Rattle.wire.specs.Messages.{Contents, with_cells, with_bits, cells_head, bits_head, head_octets, body_length, message_octets, cells_in, bits_in, contents_of}
use Rattle.wire.specs.Reads.{body_fault, unless_fault, read_answer, read_contents}
use Rattle.wire.specs.Writes.{write_answer, contents_answer}
use Rattle.wire.proofs.CheckLaws.{size_is, check_ok}
use Rattle.wire.proofs.LetterLaws.{letter_back}
use Rattle.wire.proofs.CellLaws.{rows_less, cell_long}
use Rattle.wire.proofs.BitLaws.{octet_below}
use Rattle.wire.proofs.ReadLaws.{passed}
use Rattle.wire.proofs.FoundLaws.{cell_found, cells_found, bits_found}

-- what the writer's checks tell where all of them pass
record Accepted (h : Head Letter) (n m given size k : ℕ) : Type 0 where
  nodes : bad_size n ≡ false
  items : bad_size m ≡ false
  count : given ≡ m
  sender : h.node < n
  turn : takes_step h.letter h.step ≡ true
  whole : k ≡ 5 + size

-- they tell it
accepted : (h : Head Letter) (n m given size places k : ℕ) → write_answer h n m given size places ≡ Ok k → Accepted h n m given size k
accepted h n m given size places k e =
    let e₁ = check_ok (bad_size n || bad_size m) BadSize 0 _ k e in
    let e₂ = check_ok (not (eqb given m)) Torn given _ k e₁.1 in
    let e₃ = check_ok (leb n h.node) NoNode 3 _ k e₂.1 in
    let e₄ = check_ok (not (takes_step h.letter h.step)) OutOfTurn 1 _ k e₃.1 in
    let e₅ = check_ok (ltb places (5 + size)) Short 0 (Ok (5 + size)) k e₄.1 in
    let p = or_parts (bad_size n) (bad_size m) e₁.0 in
    record {
      nodes = p.0;
      items = p.1;
      count = eqb-true given m (not-false (eqb given m) e₂.0);
      sender = leb-false n h.node e₃.0;
      turn = not-false (takes_step h.letter h.step) e₄.0;
      whole = cc e₅.1;
    }

-- k octets of bits are k octets
packed_long : (k : ℕ) (bs : List Bool) → length (packed k bs) ≡ k
packed_long zero bs = refl
packed_long (suc k) bs = ap suc (packed_long k (drop 8 bs))

-- a last octet below 2 ^ u has no bit of no item
last_none : (m u : ℕ) (body : List ℕ) → get_or body (length body - 1) 0 < 2 ^ u → 1 + (m - 1) % 8 ≡ u → bits_fault m body ≡ None
last_none m u body h e =
    let q : get_or body (length body - 1) 0 / 2 ^ (1 + (m - 1) % 8) ≡ 0 =
    ap (λ n. get_or body (length body - 1) 0 / 2 ^ n) e ∙ div-eq_of_lt h in
    ap (λ b. cond b None (Some (in_message StrangeReading (4 + length body)))) (eq-eqb _ 0 q)

-- bits that are written have no bit of no item
bits_none : (bs : List Bool) → 1 ≤ length bs → length bs ≤ 16 → bits_fault (length bs) (bit_octets bs) ≡ None
bits_none bs l h = elim (cases_lt (length bs) 9) [
  | inl s ↦
      let k : (length bs + 7) / 8 ≡ 1 = omega arith in
      let t : length (take 8 bs) ≡ length bs = simp length-take (omega arith) in
      let u : 1 + (length bs - 1) % 8 ≡ length (take 8 bs) = omega arith in
      ap (λ n. bits_fault (length bs) (packed n bs)) k
      ∙ last_none (length bs) (length (take 8 bs)) (packed 1 bs) (octet_below (take 8 bs)) u
  | inr s ↦
      let k : (length bs + 7) / 8 ≡ 2 = omega arith in
      let t : length (take 8 (drop 8 bs)) ≡ length bs - 8 = simp (length-take, length-drop) (omega arith) in
      let u : 1 + (length bs - 1) % 8 ≡ length (take 8 (drop 8 bs)) = omega arith in
      ap (λ n. bits_fault (length bs) (packed n bs)) k
      ∙ last_none (length bs) (length (take 8 (drop 8 bs))) (packed 2 bs) (octet_below (take 8 (drop 8 bs))) u
]

module _ {X : Type 0} (w : ℕ) (octets : X → List ℕ) (reads : List ℕ → Option X) (long : (r : X) → length (octets r) ≡ w)
    (back : (r : X) → reads (octets r) ≡ Some r) where
  -- cells that are written have no fault
  cells_none : (cells : List (Option X)) (i k : ℕ) → i + k ≡ length cells
      → cells_fault w reads (flat_map (cell_octets w octets) cells) i k ≡ None
  cells_none cells i zero h = refl
  cells_none cells i (suc k) h =
      let body = flat_map (cell_octets w octets) cells in
      ap (λ r. or_later r (5 + i * (w + 1)) (cells_fault w reads body (i + 1) k)) (cell_found w octets reads long back cells i (omega arith))
      ∙ cells_none cells (i + 1) k (omega arith)

  -- the octets of cells, counted
  cells_long : (cells : List (Option X)) → length (flat_map (cell_octets w octets) cells) ≡ length cells * (w + 1)
  cells_long [] = omega arith
  cells_long (x ∷ xs) =
      length-append (cell_octets w octets x) (flat_map (cell_octets w octets) xs)
      ∙ omega (arith, cell_long w octets long x, cells_long xs, rows_less (suc (length xs)) (length xs) (w + 1) (omega arith))

  -- a head and a body without a fault are read as they are
  there : (h : Head Letter) (n m given size k : ℕ) (body : List ℕ) → Accepted h n m given size k → length body ≡ body_length w h.letter m
      → body_fault w reads h.letter m body ≡ None
      → read_answer w reads n m (head_octets h m ++ body) ≡ Ok (record { front = h; count = m; rest = body })
  there h n m given size k body a l f =
      let o = head_octets h m ++ body in
      let five : 5 ≤ length o = omega arith in
      let fits : length o ≡ 5 + body_length w h.letter m = omega arith in
      let x : pair_at o 1 ≡ h.step = omega arith in
      passed w reads n m o h.letter a.nodes a.items five (letter_back h.letter) refl fits a.sender
      (ap (takes_step h.letter) x ∙ a.turn)
      ∙ ap (λ b. unless_fault b (record { front = record { letter = h.letter; step = pair_at o 1; node = h.node }; count = m; rest = body })) f
      ∙ ap (λ s. Ok (record { front = record { letter = h.letter; step = s; node = h.node }; count = m; rest = body })) x

  -- the same as contents
  there_contents : (h : Head Letter) (n m given size k : ℕ) (body : List ℕ) (c : Contents X) → Accepted h n m given size k
      → length body ≡ body_length w h.letter m → body_fault w reads h.letter m body ≡ None
      → contents_of w reads (record { front = h; count = m; rest = body }) ≡ c
      → read_contents w reads n m (head_octets h given ++ body) ≡ Ok c
  there_contents h n m given size k body c a l f e =
      ap (λ x. read_contents w reads n m (head_octets h x ++ body)) a.count
      ∙ ap (result_map_both (contents_of w reads) (λ x. x)) (there h n m given size k body a l f)
      ∙ ap Ok e

  -- what may be written has the length that is said, and reads back
  pub back_again : (n m places k : ℕ) (c : Contents X) → contents_answer w n m c places ≡ Ok k
      → (length (message_octets w octets c) ≡ k) × (read_contents w reads n m (message_octets w octets c) ≡ Ok c)
  back_again n m places k (with_cells h cells) e =
      let a = accepted (cells_head h) n m (length cells) (m * (w + 1)) places k e in
      let body = flat_map (cell_octets w octets) cells in
      let l : length body ≡ m * (w + 1) = cells_long cells ∙ ap (λ x. x * (w + 1)) a.count in
      let f : cells_fault w reads body 0 m ≡ None = cells_none cells 0 m (omega (arith, a.count)) in
      let s = ap (cells_in w reads body) (sym a.count) ∙ cells_found w octets reads long back cells in (
        omega (arith, a.whole),
        there_contents (cells_head h) n m (length cells) (m * (w + 1)) k body (with_cells h cells) a l f (ap (with_cells h) s),
      )
  back_again n m places k (with_bits h bits) e =
      let a = accepted (bits_head h) n m (length bits) (octets_for m) places k e in
      let body = bit_octets bits in
      let z = size_is m a.items in
      let l : length body ≡ octets_for m = packed_long (octets_for (length bits)) bits ∙ ap octets_for a.count in
      let f : bits_fault m body ≡ None = ap (λ x. bits_fault x body) (sym a.count) ∙ bits_none bits (omega (arith, z.0, a.count)) (omega (arith, z.1, a.count)) in
      let s = ap (bits_in body) (sym a.count) ∙ bits_found bits in (
        omega (arith, a.whole),
        there_contents (bits_head h) n m (length bits) (octets_for m) k body (with_bits h bits) a l f (ap (with_bits h) s),
      )
