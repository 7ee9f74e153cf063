use Rattle.std.proofs.Common.{◌≡◌, ℕ, ◌+◌, ◌-◌, ◌<◌, eqb, ltb, List, [], ◌∷◌, ◌++◌, length, take, drop, Some, refl, ⊎_elim, arith}
use Rattle.std.proofs.lemmas.Bool.{ltb-true, cases_Bool, cond_both}
use Rattle.std.proofs.lemmas.List.{take_rest, append_assoc}
use Rattle.std.proofs.lemmas.List.Splits.{slice_split_first, length-slice_split}
use Rattle.std.proofs.lemmas.List.Sums.{sum_by-cons}
use Rattle.std.specs.List.{position, position_or_len, sum_by}
use Rattle.lines.specs.Fields.{in_front, fields}

-- every line has a field
pub some_field : (p : ℕ) (bs : List ℕ) → 0 < length (fields p bs)
some_field p bs = omega (arith, length-slice_split (λ b. eqb b p) bs)

-- where an octet parts, the first field ends at the first of them
pub cut : (p : ℕ) (bs : List ℕ) (n : ℕ) → Some n ≡ position (λ b. eqb b p) bs → fields p bs ≡ take n bs ∷ fields p (take (length bs - (n + 1)) (drop (n + 1) bs))
cut p bs n e =
    let k = position_or_len (λ b. eqb b p) bs in
    ⊎_elim
    (λ t. let same : n ≡ k = cc in
    let rest = take_rest bs (n + 1) in
    rw (rest, same) (slice_split_first (λ b. eqb b p) bs 0 (ltb-true k (length bs) t)))
    (λ t. absurd (let z : ◌≡◌ {A = ℕ} 0 1 = cc in omega arith))
    (cases_Bool (ltb k (length bs)))

-- the octets of fields, and one more for each
abbrev pub octets_in : List (List ℕ) → ℕ
octets_in = sum_by (λ f. length f + 1)

in_front_octets : (b : ℕ) (fs : List (List ℕ)) → 0 < length fs → octets_in (in_front b fs) ≡ 1 + octets_in fs
in_front_octets b [] h = absurd (omega arith)
in_front_octets b (f ∷ fs) h =
    rw (sum_by-cons (λ (g : List ℕ). length g + 1) (b ∷ f) fs, sum_by-cons (λ (g : List ℕ). length g + 1) f fs) (omega arith)

-- a line has the octets of its fields, and one between each two
pub octets_in_fields : (p : ℕ) (bs : List ℕ) → octets_in (fields p bs) ≡ length bs + 1
octets_in_fields p [] = refl
octets_in_fields p (b ∷ bs) =
    cond_both (eqb b p) ([] ∷ fields p bs) (in_front b (fields p bs)) (λ fs. octets_in fs ≡ length (b ∷ bs) + 1)
    (λ _. rw (sum_by-cons (λ (g : List ℕ). length g + 1) [] (fields p bs), octets_in_fields p bs) (omega arith))
    (λ _. rw (in_front_octets b (fields p bs) (some_field p bs), octets_in_fields p bs) (omega arith))

-- the fields with these octets in front of the first
abbrev pub all_in_front : List ℕ → List (List ℕ) → List (List ℕ)
all_in_front bs [] = bs ∷ []
all_in_front bs (f ∷ fs) = (bs ++ f) ∷ fs

-- one octet more that stays in the field
pub front_push : (bs : List ℕ) (b : ℕ) (fs : List (List ℕ)) → 0 < length fs → all_in_front bs (in_front b fs) ≡ all_in_front (bs ++ (b ∷ [])) fs
front_push bs b [] h = absurd (omega arith)
front_push bs b (f ∷ fs) h = rw append_assoc

pub front_none : (fs : List (List ℕ)) → 0 < length fs → fs ≡ all_in_front [] fs
front_none [] h = absurd (omega arith)
front_none (f ∷ fs) h = refl
