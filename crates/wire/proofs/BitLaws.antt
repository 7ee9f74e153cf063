-- The steps of writing bits.
use Rattle.std.proofs.Common.{◌≡◌, ℕ, suc, ◌+◌, ◌*◌, ◌%◌, ◌^◌, ◌<◌, ◌≤◌, min, Bool, true, false, List, [], ◌∷◌, ◌++◌, length, get_or, take, drop, set, sym, ap, ◌∙◌, subst, inl, inr, append_assoc, pow-suc, arith, lit<, pow_mono}
use Rattle.std.proofs.lemmas.List.{take_all, drop_all, take_more, take_more_set, length-take-le}
use Rattle.std.proofs.lemmas.Bool.{cases_lt}
use Rattle.wire.specs.Bits.{bit_number, octet_of, packed}

-- k bits are a number below 2 ^ k
pub octet_below : (bs : List Bool) → octet_of bs < 2 ^ length bs
octet_below [] = lit< tt
octet_below (true ∷ bs) = let p = pow-suc 2 (length bs) in omega (arith, octet_below bs, p)
octet_below (false ∷ bs) = let p = pow-suc 2 (length bs) in omega (arith, octet_below bs, p)

-- one bit more, above the others
octet_snoc : (bs : List Bool) (b : Bool) → octet_of (bs ++ b ∷ []) ≡ octet_of bs + bit_number b * 2 ^ length bs
octet_snoc [] true = omega arith
octet_snoc [] false = omega arith
octet_snoc (true ∷ bs) true = let p = pow-suc 2 (length bs) in omega (arith, octet_snoc bs true, p)
octet_snoc (true ∷ bs) false = omega (arith, octet_snoc bs false)
octet_snoc (false ∷ bs) true = let p = pow-suc 2 (length bs) in omega (arith, octet_snoc bs true, p)
octet_snoc (false ∷ bs) false = omega (arith, octet_snoc bs false)

-- the same of eight bits at most, from the first on
pub octet_more : (bits : List Bool) (i x y : ℕ) → i < length bits → length bits ≤ 8 → x ≡ octet_of (take i bits)
    → y ≡ bit_number (get_or bits i false) → (x + y * 2 ^ i % 256 ≡ octet_of (take (i + 1) bits)) × (x + y * 2 ^ i % 256 < 256)
octet_more bits i x y h l e g =
    let b = get_or bits i false in
    let n : length (take i bits) ≡ i = length-take-le i bits (omega arith) in
    let m : length (take (i + 1) bits) ≡ i + 1 = length-take-le (i + 1) bits (omega arith) in
    let t : take (i + 1) bits ≡ take i bits ++ b ∷ [] = take_more bits i false h in
    let s : octet_of (take (i + 1) bits) ≡ octet_of (take i bits) + bit_number b * 2 ^ i =
    ap octet_of t ∙ octet_snoc (take i bits) b ∙ ap (λ k. octet_of (take i bits) + bit_number b * 2 ^ k) n in
    let k : octet_of (take (i + 1) bits) < 2 ^ (i + 1) = subst (λ (k : ℕ). octet_of (take (i + 1) bits) < 2 ^ k) m (octet_below (take (i + 1) bits)) in
    let u : i + 1 ≤ 8 = omega arith in
    let p : 2 ^ (i + 1) ≤ 2 ^ 8 = pow_mono u in
    let v : y * 2 ^ i ≡ bit_number b * 2 ^ i = ap (λ z. z * 2 ^ i) g in
    (omega arith, omega arith)

-- eight at most are eight, or all
take_min : (s : ℕ) (xs : List Bool) → s ≡ min (length xs) 8 → take s xs ≡ take 8 xs
take_min s xs e = elim (cases_lt (length xs) 8) [
  | inl h ↦ take_all s xs (omega arith) ∙ sym (take_all 8 xs (omega arith))
  | inr h ↦ let q : s ≡ 8 = omega arith in ap (λ n. take n xs) q
]

-- and so is what is left
drop_min : (s : ℕ) (xs : List Bool) → s ≡ min (length xs) 8 → drop s xs ≡ drop 8 xs
drop_min s xs e = elim (cases_lt (length xs) 8) [
  | inl h ↦ drop_all s xs (omega arith) ∙ sym (drop_all 8 xs (omega arith))
  | inr h ↦ let q : s ≡ 8 = omega arith in ap (λ n. drop n xs) q
]

-- one octet more
pub packed_more : (k j i s v : ℕ) (out all : List ℕ) (rest part after : List Bool)
    → i < length out → k ≡ j + 1 → s ≡ min (length rest) 8 → part ≡ take s rest → after ≡ drop s rest → v ≡ octet_of part
    → take i out ++ packed k rest ≡ all → take (i + 1) (set out i v) ++ packed j after ≡ all
packed_more k j i s v out all rest part after l e m p a o inv =
    let q : k ≡ suc j = omega arith in
    let b : packed k rest ≡ octet_of (take 8 rest) ∷ packed j (drop 8 rest) = ap (λ n. packed n rest) q in
    let t = take_more_set out i v l in
    let u = take_min s rest m in
    let d = drop_min s rest m in
    let x : (take i out ++ v ∷ []) ++ packed j after ≡ take i out ++ (v ∷ packed j after) =
    append_assoc (take i out) (v ∷ []) (packed j after) in
    cc
