-- The calls of a message, one by one.
use Rattle.std.proofs.Common.{◌≡◌, ℕ, zero, suc, ◌+◌, ◌-◌, ◌<◌, ◌≤◌, Bool, false, List, [], ◌∷◌, ◌++◌, map, length, get_or, Some, None, Ok, Err, Option, Result, sym, refl, ap, ◌∙◌, inl, inr, add-zero, zero-add, arith}
use Rattle.std.specs.List.{range_with_len, list_any}
use Rattle.std.specs.Result.{result_map_both, result_unwrap_or}
use Rattle.std.proofs.lemmas.List.FromFn.{length-range_with_len, get_or-range_with_len, length-map-range_with_len, get_or-map-range_with_len}
use Rattle.std.proofs.lemmas.List.{length-append, get_or_past, get_or-append_right, get_or_append_left}
use Rattle.std.proofs.lemmas.List.Recursion.{or_at}
use Rattle.std.proofs.lemmas.Bool.{cases_Bool, both_ways}
use Rattle.refusal.specs.declared.Refusal.{Refusal}
use Rattle.refusal.specs.declared.Refusal.TheVariants.{StrangeReading}
use Rattle.refusal.specs.Refusals.{unless}
use Rattle.law.specs.declared.calls.Call.{Call}
use Rattle.law.specs.declared.calls.Call.TheVariants.{SendValue, SendBit, SendFinal}
use Rattle.wire.specs.declared.message.CellLetter.{CellLetter}
use Rattle.wire.specs.declared.message.BitLetter.{BitLetter}
use Rattle.wire.specs.declared.message.BitLetter.TheVariants.{Bits, Final}
use Rattle.wire.specs.declared.message.Letter.{Letter}
use Rattle.wire.specs.declared.message.Letter.TheVariants.{OfCells, OfBits}
use Rattle.wire.specs.Bits.{bit_number, bit_at}
use Rattle.wire.specs.Items.{cell_at}
use Rattle.wire.specs.Messages.{Parts, said, cells_in, bits_in}
use Rattle.wire.specs.Looks.{cell_answer, bit_answer}
use Rattle.relay.specs.Deliveries.{message_calls, last_call, count_calls}

-- an answer that is no refusal
unless_ok : {X : Type 0} (o : Option Refusal) (r : Result X Refusal) (x : X) → Ok x ≡ unless o r → r ≡ Ok x
unless_ok None r x e = sym e
unless_ok (Some u) r x e = let z : ◌≡◌ {A = ℕ} 0 1 = cc in absurd (omega arith)

mapped_ok : {X E : Type 0} (r : Result X E) (x : X) → result_map_both (λ c. c) (λ _. StrangeReading) r ≡ Ok x → r ≡ Ok x
mapped_ok (Ok y) x e = let z : y ≡ x = cc in ap Ok z
mapped_ok (Err u) x e = let z : ◌≡◌ {A = ℕ} 0 1 = cc in absurd (omega arith)

-- where no item passes, none of them does
pub none_of_all : (f : ℕ → Bool) (k c : ℕ) → list_any f (range_with_len 0 k) ≡ false → c < k → f c ≡ false
none_of_all f k c e h = elim (cases_Bool (f c)) [
  | inl hit ↦ absurd (both_ways (list_any f (range_with_len 0 k)) e
      (or_at (list_any f) f refl (λ _ _. refl) (range_with_len 0 k) c 0 (omega (arith, length-range_with_len 0 k)) (ap f (get_or-range_with_len 0 k c 0 h ∙ zero-add c) ∙ hit)))
  | inr miss ↦ miss
]

-- the last of a list, at its place and past it
at_end : {X : Type 0} (xs : List X) (y : X) (c : ℕ) → length xs ≤ c → get_or (xs ++ (y ∷ [])) c y ≡ y
at_end xs y c h = get_or-append_right xs (y ∷ []) (length xs) c y refl h ∙ last (c - length xs)
  where
    last : (k : ℕ) → get_or (y ∷ []) k y ≡ y
    last zero = refl
    last (suc k) = refl

module _ {R : Type 0} (w : ℕ) (reads : List ℕ → Option R) (j : ℕ) (p : Parts) where
  cell_call : ℕ → Call R
  cell_call c = SendValue p.front.node j c (get_or (cells_in w reads p.rest p.count) c None)

  bit_call : ℕ → Call R
  bit_call c = SendBit p.front.node j c (bit_number (get_or (bits_in p.rest p.count) c false))

  cells_long : length (cells_in w reads p.rest p.count) ≡ p.count
  cells_long = length-map-range_with_len (λ i. result_unwrap_or (cell_at w reads p.rest i) None) 0 p.count

  bits_long : length (bits_in p.rest p.count) ≡ p.count
  bits_long = length-map-range_with_len (bit_at p.rest) 0 p.count

  -- how many calls there are
  pub length_calls : (l : Letter) → length (message_calls j (said w reads p l)) ≡ count_calls l p.count
  unfolding cell_call bit_call
  length_calls (OfCells l) = length-map-range_with_len cell_call 0 (length (cells_in w reads p.rest p.count)) ∙ cells_long
  length_calls (OfBits Bits) =
      length-append (map bit_call (range_with_len 0 (length (bits_in p.rest p.count)))) []
      ∙ add-zero _ ∙ length-map-range_with_len bit_call 0 (length (bits_in p.rest p.count)) ∙ bits_long
  length_calls (OfBits Final) =
      length-append (map bit_call (range_with_len 0 (length (bits_in p.rest p.count)))) (SendFinal p.front.node j ∷ [])
      ∙ ap (λ k. k + 1) (length-map-range_with_len bit_call 0 (length (bits_in p.rest p.count)) ∙ bits_long)

  -- an item that reads
  cell_told : (c : ℕ) (x : Option R) → Ok x ≡ cell_answer w reads p c → cell_at w reads p.rest c ≡ Ok x
  cell_told c x e = mapped_ok (cell_at w reads p.rest c) x (unless_ok _ _ x e)

  bit_told : (c : ℕ) (b : Bool) → Ok b ≡ bit_answer p c → bit_at p.rest c ≡ b
  bit_told c b e = let o : ◌≡◌ {A = Result Bool Refusal} (Ok (bit_at p.rest c)) (Ok b) = unless_ok _ _ b e in ap (λ (r : Result Bool Refusal). result_unwrap_or r b) o

  -- the call of an item's cell
  pub call_of_cell : (l : CellLetter) (c : ℕ) (x : Option R) (d : Call R) → c < p.count → Ok x ≡ cell_answer w reads p c →
      get_or (message_calls j (said w reads p (OfCells l))) c d ≡ SendValue p.front.node j c x
  unfolding cell_call
  call_of_cell l c x d h e =
      let q = cell_told c x e in
      let long = cells_long in
      get_or-map-range_with_len cell_call 0 (length (cells_in w reads p.rest p.count)) c c d (omega arith) (omega arith)
      ∙ ap (λ y. SendValue p.front.node j c y)
      (get_or-map-range_with_len (λ i. result_unwrap_or (cell_at w reads p.rest i) None) 0 p.count c c None h (omega arith) ∙ ap (λ r. result_unwrap_or r None) q)

  -- the call of an item's bit
  pub call_of_bit : (l : BitLetter) (c : ℕ) (b : Bool) (d : Call R) → c < p.count → Ok b ≡ bit_answer p c →
      get_or (message_calls j (said w reads p (OfBits l))) c d ≡ SendBit p.front.node j c (bit_number b)
  unfolding bit_call
  call_of_bit l c b d h e =
      let q = bit_told c b e in
      let long = bits_long in
      let all = length-map-range_with_len bit_call 0 (length (bits_in p.rest p.count)) in
      get_or_append_left (map bit_call (range_with_len 0 (length (bits_in p.rest p.count)))) (last_call l p.front.node j) d c (omega arith)
      ∙ get_or-map-range_with_len bit_call 0 (length (bits_in p.rest p.count)) c c d (omega arith) (omega arith)
      ∙ ap (λ y. SendBit p.front.node j c (bit_number y)) (get_or-map-range_with_len (bit_at p.rest) 0 p.count c c false h (omega arith) ∙ q)

  -- behind the items there is the send of final bits, or nothing
  pub call_behind : (l : Letter) (c : ℕ) → p.count ≤ c → get_or (message_calls j (said w reads p l)) c (SendFinal p.front.node j) ≡ SendFinal p.front.node j
  unfolding bit_call
  call_behind (OfCells l) c h = let k = length_calls (OfCells l) in get_or_past _ c _ (omega arith)
  call_behind (OfBits Bits) c h = let k = length_calls (OfBits Bits) in get_or_past _ c _ (omega arith)
  call_behind (OfBits Final) c h =
      let long = bits_long in
      let all = length-map-range_with_len bit_call 0 (length (bits_in p.rest p.count)) in
      at_end (map bit_call (range_with_len 0 (length (bits_in p.rest p.count)))) (SendFinal p.front.node j) c (omega arith)
