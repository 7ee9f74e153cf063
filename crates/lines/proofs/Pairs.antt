use Rattle.std.proofs.Common.{◌≡◌, ℕ, suc, ◌+◌, ◌*◌, ◌/◌, ◌%◌, ◌<◌, ◌≤◌, true, false, Bool, cond, ◌&&◌, ltb, leb, ◌⊎◌, List, [], ◌∷◌, ◌++◌, length, get_or, take, drop, set, is_some, Some, None, Option, sym, refl, ap, ◌∙◌, inl, inr, ⊎_elim, arith}
use mathlib.Core.Bool.{and-false}
use Rattle.std.proofs.lemmas.Bool.{true≢false, le-ltb, lt-leb, lt-ltb, le-leb, cases_eq}
use Rattle.std.proofs.lemmas.List.Folds.{list_all_at}
use Rattle.std.proofs.lemmas.List.{take_all, take_more, take_more_set, drop-drop, drop-set-lt}
use Rattle.std.specs.Option.{option_map}
use Rattle.std.specs.Simd.{first_chunks}
use Rattle.std.specs.List.{list_all}
use Rattle.lines.specs.Digits.{and_then, octet_of, octets_of, hex_octets_of}

-- the octet of a pair of digits
abbrev pub pair_octet : List ℕ → Option ℕ
pair_octet p = octet_of (get_or p 0 0) (get_or p 1 0)

-- the octets of pairs of digits
abbrev pub pairs_octets : List (List ℕ) → Option (List ℕ)
pairs_octets [] = Some []
pairs_octets (p ∷ ps) = and_then (pair_octet p) (λ o. option_map (λ os. o ∷ os) (pairs_octets ps))

-- the pairs of digits of a field
abbrev pub pairs_of : List ℕ → List (List ℕ)
pairs_of bs = first_chunks 2 (length bs / 2) bs

-- digits in pairs write the octets of the pairs
pub by_pairs : (bs : List ℕ) → length bs % 2 ≡ 0 → octets_of bs ≡ pairs_octets (pairs_of bs)
by_pairs [] h = refl
by_pairs (b ∷ []) h = absurd (omega arith)
by_pairs (a ∷ (b ∷ bs)) h =
    let half : length (a ∷ (b ∷ bs)) / 2 ≡ suc (length bs / 2) = omega arith in
    rw (half, by_pairs bs (omega arith))

-- a digit too many writes none
nothing : (o : Option ℕ) (none : Option (List ℕ)) → none ≡ None → and_then o (λ x. option_map (λ os. x ∷ os) none) ≡ None
nothing None none e = refl
nothing (Some x) none e = rw e

pub no_pairs : (bs : List ℕ) → (length bs % 2 ≡ 0 → ⊥) → octets_of bs ≡ None
no_pairs [] h = absurd (h (omega arith))
no_pairs (b ∷ []) h = refl
no_pairs (a ∷ (b ∷ bs)) h = nothing (octet_of a b) (octets_of bs) (no_pairs bs (λ e. h (omega (arith, e))))

-- pairs write octets if each writes one
and_some : (o : Option ℕ) (os : Option (List ℕ)) (t : Bool) → is_some os ≡ t → is_some (and_then o (λ x. option_map (λ xs. x ∷ xs) os)) ≡ is_some o && t
and_some None os t e = refl
and_some (Some x) None t e = e
and_some (Some x) (Some os) t e = e

pub each_some : (ps : List (List ℕ)) → is_some (pairs_octets ps) ≡ list_all (λ p. is_some (pair_octet p)) ps
each_some [] = refl
each_some (p ∷ ps) = and_some (pair_octet p) (pairs_octets ps) (list_all (λ q. is_some (pair_octet q)) ps) (each_some ps)

-- one pair more
pushed : (x o : ℕ) (os : List ℕ) (all more : Option (List ℕ)) → option_map (λ xs. x ∷ xs) all ≡ Some os → ((xs : List ℕ) → all ≡ Some xs → more ≡ Some (xs ++ o ∷ [])) → option_map (λ xs. x ∷ xs) more ≡ Some (os ++ o ∷ [])
pushed x o os None more e h = absurd (let z : ◌≡◌ {A = ℕ} 0 1 = cc in omega arith)
pushed x o os (Some xs) more e h = let same : os ≡ x ∷ xs = cc in rw (h xs refl, same)

pushed_behind : (q : Option ℕ) (o : ℕ) (os : List ℕ) (all more : Option (List ℕ)) → and_then q (λ x. option_map (λ xs. x ∷ xs) all) ≡ Some os → ((xs : List ℕ) → all ≡ Some xs → more ≡ Some (xs ++ o ∷ [])) → and_then q (λ x. option_map (λ xs. x ∷ xs) more) ≡ Some (os ++ o ∷ [])
pushed_behind None o os all more e h = absurd (let z : ◌≡◌ {A = ℕ} 0 1 = cc in omega arith)
pushed_behind (Some x) o os all more e h = pushed x o os all more e h

pub pairs_push : (ps : List (List ℕ)) (p os : List ℕ) (o : ℕ) → pairs_octets ps ≡ Some os → pair_octet p ≡ Some o → pairs_octets (ps ++ p ∷ []) ≡ Some (os ++ o ∷ [])
pairs_push [] p os o e h = let none : os ≡ [] = cc in rw (h, none)
pairs_push (q ∷ ps) p os o e h = pushed_behind (pair_octet q) o os (pairs_octets ps) (pairs_octets (ps ++ p ∷ [])) e (λ xs k. pairs_push ps p xs o k h)

-- the next pair, whose octet is written behind the octets so far
pub pairs_more : (ps : List (List ℕ)) (out : List ℕ) (i o : ℕ) (d : List ℕ) → i < length ps → i < length out → pairs_octets (take i ps) ≡ Some (take i out) → Some o ≡ pair_octet (get_or ps i d) → pairs_octets (take (i + 1) ps) ≡ Some (take (i + 1) (set out i o))
pairs_more ps out i o d h k e p = rw (take_more ps i d h, take_more_set out i o k) (pairs_push (take i ps) (get_or ps i d) (take i out) o e (sym p))

-- what lies behind the octets that are written stays
pub kept_more : (out old : List ℕ) (i o : ℕ) → drop i out ≡ drop i old → drop (i + 1) (set out i o) ≡ drop (i + 1) old
kept_more out old i o e =
    drop-set-lt (i + 1) out i o (omega arith) ∙ sym (drop-drop 1 i out) ∙ ap (drop 1) e ∙ drop-drop 1 i old

-- the octets are half as many as their digits
count_on : (q : Option ℕ) (all : Option (List ℕ)) (n : ℕ) (os : List ℕ) → ((xs : List ℕ) → all ≡ Some xs → length xs * 2 ≡ n) → and_then q (λ x. option_map (λ xs. x ∷ xs) all) ≡ Some os → length os * 2 ≡ n + 2
count_on None all n os h e = absurd (let z : ◌≡◌ {A = ℕ} 0 1 = cc in omega arith)
count_on (Some x) None n os h e = absurd (let z : ◌≡◌ {A = ℕ} 0 1 = cc in omega arith)
count_on (Some x) (Some xs) n os h e = let same : os ≡ x ∷ xs = cc in rw same (omega (arith, h xs refl))

count : (bs os : List ℕ) → octets_of bs ≡ Some os → length os * 2 ≡ length bs
count [] os e = let none : os ≡ [] = cc in rw none refl
count (b ∷ []) os e = absurd (let z : ◌≡◌ {A = ℕ} 0 1 = cc in omega arith)
count (a ∷ (b ∷ bs)) os e = omega (arith, count_on (octet_of a b) (octets_of bs) (length bs) os (count bs) e)

fit : (o : Option (List ℕ)) (n places : ℕ) → ((os : List ℕ) → o ≡ Some os → length os ≡ n) → 0 < n → n ≤ places → o ≡ and_then o (λ os. cond (ltb 0 (length os) && leb (length os) places) (Some os) None)
fit None n places h some room = refl
fit (Some os) n places h some room =
    let long : length os ≡ n = h os refl in
    let low : ltb 0 (length os) ≡ true = lt-ltb 0 (length os) (omega arith) in
    let high : leb (length os) places ≡ true = le-leb (length os) places (omega arith) in
    rw (low, high)

-- some octets, for which there are places
pub fit_octets : (bs : List ℕ) (places : ℕ) → 0 < length bs / 2 → length bs / 2 ≤ places → octets_of bs ≡ hex_octets_of places bs
fit_octets bs places = fit (octets_of bs) (length bs / 2) places (λ os e. omega (arith, count bs os e))

unfit : (o : Option (List ℕ)) (n places : ℕ) → ((os : List ℕ) → o ≡ Some os → length os ≡ n) → (n ≡ 0) ⊎ (places < n) → and_then o (λ os. cond (ltb 0 (length os) && leb (length os) places) (Some os) None) ≡ None
unfit None n places h e = refl
unfit (Some os) n places h (inl none) =
    let low : ltb 0 (length os) ≡ false = le-ltb 0 (length os) (omega (arith, h os refl)) in
    rw low
unfit (Some os) n places h (inr over) =
    let high : leb (length os) places ≡ false = lt-leb (length os) places (omega (arith, h os refl)) in
    rw (high, and-false (ltb 0 (length os)))

-- no octet, or more than there are places for
pub unfit_octets : (bs : List ℕ) (places : ℕ) → (length bs / 2 ≡ 0) ⊎ (places < length bs / 2) → hex_octets_of places bs ≡ None
unfit_octets bs places = unfit (octets_of bs) (length bs / 2) places (λ os e. omega (arith, count bs os e))

none_kept : (o : Option (List ℕ)) (places : ℕ) → is_some o ≡ false → and_then o (λ os. cond (ltb 0 (length os) && leb (length os) places) (Some os) None) ≡ None
none_kept None places e = refl
none_kept (Some os) places e = absurd (true≢false e)

-- another octet than digits, or a digit too many
pub no_octets : (bs : List ℕ) (places : ℕ) → is_some (octets_of bs) ≡ false → hex_octets_of places bs ≡ None
no_octets bs = none_kept (octets_of bs)

-- octets are those of the pairs of digits
pub some_pairs : (bs : List ℕ) → is_some (octets_of bs) ≡ true → octets_of bs ≡ pairs_octets (pairs_of bs)
some_pairs bs e =
    ⊎_elim (λ h. by_pairs bs h) (λ h. absurd (true≢false (sym e ∙ ap is_some (no_pairs bs h)))) (cases_eq (length bs % 2) 0)

-- each pair of them writes one
pub some_at : (bs : List ℕ) (ps : List (List ℕ)) (i : ℕ) (d : List ℕ) → ps ≡ pairs_of bs → is_some (octets_of bs) ≡ true → i < length ps → None ≡ pair_octet (get_or ps i d) → ⊥
some_at bs ps i d same e h n =
    let each = λ (p : List ℕ). is_some (pair_octet p) in
    let false_at : list_all each ps ≡ false = list_all_at each ps i d h (ap is_some (sym n)) in
    true≢false (sym e ∙ ap is_some (some_pairs bs e) ∙ ap (λ qs. is_some (pairs_octets qs)) (sym same) ∙ each_some ps ∙ false_at)

-- the octets of all pairs are written
pub all_pairs : (bs : List ℕ) (ps : List (List ℕ)) (out : List ℕ) (i places : ℕ) → ps ≡ pairs_of bs → length ps ≡ length bs / 2 → is_some (octets_of bs) ≡ true → 0 < length ps → length ps ≤ places → length ps ≤ i → pairs_octets (take i ps) ≡ Some (take i out) → hex_octets_of places bs ≡ Some (take i out)
all_pairs bs ps out i places same half e some room h w =
    sym (fit_octets bs places (omega arith) (omega arith)) ∙ some_pairs bs e ∙ ap pairs_octets (sym same ∙ sym (take_all i ps h)) ∙ w
