-- The items of a message in octets.
use Rattle.std.proofs.Common.{◌≡◌, ℕ, ◌+◌, ◌/◌, ◌<◌, ◌≤◌, Bool, true, false, ltb, List, [], ◌∷◌, ◌++◌, map, length, Ok, Err, ap, ◌∙◌, arith}
use Rattle.std.proofs.lemmas.List.FromFn.{length-map-range_with_len, map-range_with_len_more}
use Rattle.std.proofs.lemmas.List.{length-map, map_push}
use Rattle.std.proofs.lemmas.Bool.{lt-leb, lt-ltb, cond-false}
use Rattle.refusal.specs.declared.Refusal.TheVariants.{Short}
use Rattle.wire.specs.Bits.{bit_number, octets_for, bit_at}
use Rattle.wire.specs.Faults.{in_message}
use Rattle.wire.specs.Looks.{has_cells, bit_answer}
use Rattle.wire.specs.Messages.{Parts, bits_in}
use Rattle.controller.specs.Reads.{flags, items_octets, items_room}

-- one octet for each bit
pub flags_long : (body : List ℕ) (count : ℕ) → length (flags body count) ≡ count
flags_long body count = length-map (bits_in body count) bit_number ∙ length-map-range_with_len (bit_at body) 0 count

-- one more
pub flags_more : (body : List ℕ) (i : ℕ) → flags body (i + 1) ≡ flags body i ++ bit_number (bit_at body i) ∷ []
flags_more body i =
    ap (map bit_number) (map-range_with_len_more (bit_at body) 0 i i (omega arith)) ∙ map_push bit_number (bits_in body i) (bit_at body i)

-- a message of bits has an octet for each
pub bits_long : (p : Parts) → has_cells p.front.letter ≡ false → length (items_octets p) ≡ p.count
bits_long p cells = ap length (cond-false (has_cells p.front.letter) p.rest (flags p.rest p.count) cells) ∙ flags_long p.rest p.count

-- a place that is too short for the items
pub short_items : {Y : Type 0} (place : List ℕ) (p : Parts) (x : Y) → length place < length (items_octets p) → Err (in_message Short 0) ≡ items_room place p x
short_items place p x h = let b : ltb (length place) (length (items_octets p)) ≡ true = lt-ltb (length place) (length (items_octets p)) h in rw b

-- the bit of an item that is there
pub bit_there : (p : Parts) (i : ℕ) (b : Bool) → Ok b ≡ bit_answer p i → has_cells p.front.letter ≡ false → i < p.count
    → octets_for p.count ≤ length p.rest → b ≡ bit_at p.rest i
bit_there p i b e cells h l =
    let e₁ = lt-leb p.count i h in
    let e₂ = lt-leb (length p.rest) (i / 8) (omega arith) in
    let q : bit_answer p i ≡ Ok (bit_at p.rest i) = simp (e₁, cells, e₂) in
    let r : Ok b ≡ Ok (bit_at p.rest i) = e ∙ q in
    cc
