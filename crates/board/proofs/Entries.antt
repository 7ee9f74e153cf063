-- The list of what is undecided: it is written in order, and has each entry once.
use Rattle.std.proofs.Common.{◌≡◌, ℕ, zero, suc, ◌+◌, ◌-◌, ◌*◌, ◌/◌, ◌%◌, ◌<◌, ◌≤◌, Bool, true, false, cond, ◌&&◌, eqb, ltb, List, [], ◌∷◌, ◌++◌, length, get_or, take, drop, set, None, count_by, Option, sym, refl, ap, ◌∙◌, subst, ⊎_elim, add-zero, mul_comm, add-one, arith}
use Rattle.std.specs.List.{range_with_len}
use Rattle.std.proofs.lemmas.Nat.{mul-add-lt, div_below, mod_below, div-mul-add, mod-mul-add, div-add-mod'}
use Rattle.std.proofs.lemmas.List.{append-nil, append_assoc, drop_more, set_at, length-append, take_at, drop_at}
use Rattle.std.proofs.lemmas.List.Sums.{sum_by-append}
use Rattle.std.proofs.lemmas.Bool.{lt-ltb, le-ltb, ltb-true, eq-eqb, ne_eqb, eqb-true, and_from, and_parts, cases_Bool, cases_order}
use Rattle.refusal.specs.declared.Refusal.{Refusal}
use Rattle.board.specs.declared.states.Table.{Table}
use Rattle.board.specs.Tables.{undecided_at, undecided_count, cells_needed}
use Rattle.board.specs.Lists.{entry_of, is_entry, entries, Listed, Lists}
use Rattle.board.proofs.Boards.{count_more}

-- whether the pair at place k is undecided
abbrev pub open_at : Table → ℕ → Bool
open_at t k = undecided_at t (k / t.m) (k % t.m)

-- the same of the pair of node i and item c
pub open_pair : (t : Table) (i c : ℕ) → c < t.m → open_at t (i * t.m + c) ≡ undecided_at t i c
open_pair t i c h =
    ap (λ j. undecided_at t j ((i * t.m + c) % t.m)) (div-mul-add i t.m c h) ∙ ap (λ j. undecided_at t i j) (mod-mul-add i t.m c h)

-- the number that stands for that pair
pub entry_pair : (t : Table) (i c : ℕ) → c < t.m → entry_of ((i * t.m + c) / t.m) ((i * t.m + c) % t.m) ≡ entry_of i c
entry_pair t i c h =
    ap (λ j. entry_of j ((i * t.m + c) % t.m)) (div-mul-add i t.m c h) ∙ ap (λ j. entry_of i j) (mod-mul-add i t.m c h)

-- a front that grows by one element
pub front_more : {X : Type 0} (p xs : List X) (i : ℕ) (v : X) → length p ≡ i → i < length xs → set (p ++ drop i xs) i v ≡ (p ++ v ∷ []) ++ drop (i + 1) xs
front_more p xs i v l h =
    ap (λ ys. set (p ++ ys) i v) (drop_more xs i v h)
    ∙ set_at p (get_or xs i v) (drop (i + 1) xs) v i l
    ∙ sym (append_assoc p (v ∷ []) (drop (i + 1) xs))

-- the count never falls
pub count_mono : (p : ℕ → Bool) (j d : ℕ) → count_by p (range_with_len 0 j) ≤ count_by p (range_with_len 0 (j + d))
count_mono p j zero = omega (arith, ap (λ i. count_by p (range_with_len 0 i)) (add-zero j))
count_mono p j (suc d) =
    let e : j + suc d ≡ j + d + 1 = omega arith in
    omega (arith, count_mono p j d, count_more p (j + d), ap (λ i. count_by p (range_with_len 0 i)) e)

-- one that passes is not the last that is counted
pub count_below : (p : ℕ → Bool) (k n : ℕ) → k < n → p k ≡ true → count_by p (range_with_len 0 k) < count_by p (range_with_len 0 n)
count_below p k n h e =
    let d = n - (k + 1) in
    let s : k + 1 + d ≡ n = omega arith in
    let one : Bool → ℕ = λ b. cond b 1 0 in
    let o = ap one e in
    omega (arith, count_more p k, count_mono p (k + 1) d, ap (λ i. count_by p (range_with_len 0 i)) s, o)

-- the entries of one more pair
pub entries_yes : (t : Table) (k : ℕ) → open_at t k ≡ true → entries t (k + 1) ≡ entries t k ++ entry_of (k / t.m) (k % t.m) ∷ []
entries_yes t k e =
    ap (entries t) (add-one k) ∙ ap (λ (b : Bool). entries t k ++ cond b (entry_of (k / t.m) (k % t.m) ∷ []) []) e

pub entries_no : (t : Table) (k : ℕ) → open_at t k ≡ false → entries t (k + 1) ≡ entries t k
entries_no t k e =
    ap (entries t) (add-one k) ∙ ap (λ (b : Bool). entries t k ++ cond b (entry_of (k / t.m) (k % t.m) ∷ []) []) e ∙ append-nil (entries t k)

-- a list of one or none has the length 1 or 0
length_one : (b : Bool) (x : ℕ) → length (cond b (x ∷ []) []) ≡ cond b 1 0
length_one true x = refl
length_one false x = refl

pub length_entries : (t : Table) (k : ℕ) → length (entries t k) ≡ count_by (open_at t) (range_with_len 0 k)
length_entries t zero = refl
length_entries t (suc k) =
    length-append (entries t k) (cond (open_at t k) (entry_of (k / t.m) (k % t.m) ∷ []) [])
    ∙ omega (arith, length_entries t k, length_one (open_at t k) (entry_of (k / t.m) (k % t.m)), count_more (open_at t) k, ap (λ i. count_by (open_at t) (range_with_len 0 i)) (add-one k))

-- the list after one more pair that is undecided
pub list_yes : (t : Table) (k count : ℕ) (xs : List ℕ) → open_at t k ≡ true → count ≡ count_by (open_at t) (range_with_len 0 k) → count < length xs
    → set (entries t k ++ drop count xs) count (entry_of (k / t.m) (k % t.m)) ≡ entries t (k + 1) ++ drop (count + 1) xs
list_yes t k count xs e l h =
    front_more (entries t k) xs count (entry_of (k / t.m) (k % t.m)) (length_entries t k ∙ sym l) h
    ∙ ap (λ ys. ys ++ drop (count + 1) xs) (sym (entries_yes t k e))

-- tests that hold together are equal
same_test : (a b : Bool) → (a ≡ true → b ≡ true) → (b ≡ true → a ≡ true) → a ≡ b
same_test true b f g = sym (f refl)
same_test false true f g = g refl
same_test false false f g = refl

-- the place of the pair that a number stands for
abbrev place_of : Table → ℕ → ℕ
place_of t x = x / 16 * t.m + x % 16

-- the pair at place k is undecided and has the entry x, just where x is an entry and has the place k
hit : (t : Table) (x k : ℕ) → k < t.n * t.m → (open_at t k && eqb (entry_of (k / t.m) (k % t.m)) x) ≡ (is_entry t x && eqb (place_of t x) k)
hit t x k h = same_test _ _ to back
  where
    pos : 0 < t.m
    pos = omega (arith, t.sizes)

    small : k % t.m < t.m
    small = mod_below k t.m pos

    to : (open_at t k && eqb (entry_of (k / t.m) (k % t.m)) x) ≡ true → (is_entry t x && eqb (place_of t x) k) ≡ true
    to e =
        let u = and_parts (open_at t k) (eqb (entry_of (k / t.m) (k % t.m)) x) e in
        let q : k / t.m * 16 + k % t.m ≡ x = eqb-true (entry_of (k / t.m) (k % t.m)) x u.1 in
        let w : k % t.m < 16 = omega (arith, small, t.sizes) in
        let d : x / 16 ≡ k / t.m = ap (λ i. i / 16) (sym q) ∙ div-mul-add (k / t.m) 16 (k % t.m) w in
        let r : x % 16 ≡ k % t.m = ap (λ i. i % 16) (sym q) ∙ mod-mul-add (k / t.m) 16 (k % t.m) w in
        let p : place_of t x ≡ k = ap (λ i. i * t.m + x % 16) d ∙ ap (λ i. k / t.m * t.m + i) r ∙ div-add-mod' k t.m in
        let o : undecided_at t (x / 16) (x % 16) ≡ true = ap (λ i. undecided_at t i (x % 16)) d ∙ ap (λ i. undecided_at t (k / t.m) i) r ∙ u.0 in
        let a : ltb (x / 16) t.n ≡ true = lt-ltb (x / 16) t.n (omega (arith, d, div_below k t.m t.n pos h)) in
        let b : ltb (x % 16) t.m ≡ true = lt-ltb (x % 16) t.m (omega (arith, r, small)) in
        and_from (is_entry t x) (eqb (place_of t x) k)
        (and_from (ltb (x / 16) t.n) (ltb (x % 16) t.m && undecided_at t (x / 16) (x % 16)) a (and_from (ltb (x % 16) t.m) (undecided_at t (x / 16) (x % 16)) b o))
        (eq-eqb (place_of t x) k p)

    back : (is_entry t x && eqb (place_of t x) k) ≡ true → (open_at t k && eqb (entry_of (k / t.m) (k % t.m)) x) ≡ true
    back e =
        let u = and_parts (is_entry t x) (eqb (place_of t x) k) e in
        let v = and_parts (ltb (x / 16) t.n) (ltb (x % 16) t.m && undecided_at t (x / 16) (x % 16)) u.0 in
        let w = and_parts (ltb (x % 16) t.m) (undecided_at t (x / 16) (x % 16)) v.1 in
        let p : x / 16 * t.m + x % 16 ≡ k = eqb-true (place_of t x) k u.1 in
        let l : x % 16 < t.m = ltb-true (x % 16) t.m w.0 in
        let d : k / t.m ≡ x / 16 = ap (λ i. i / t.m) (sym p) ∙ div-mul-add (x / 16) t.m (x % 16) l in
        let r : k % t.m ≡ x % 16 = ap (λ i. i % t.m) (sym p) ∙ mod-mul-add (x / 16) t.m (x % 16) l in
        let o : open_at t k ≡ true = ap (λ i. undecided_at t i (k % t.m)) d ∙ ap (λ i. undecided_at t (x / 16) i) r ∙ w.1 in
        let q : entry_of (k / t.m) (k % t.m) ≡ x = ap (λ i. i * 16 + k % t.m) d ∙ ap (λ i. x / 16 * 16 + i) r ∙ div-add-mod' x 16 in
        and_from (open_at t k) (eqb (entry_of (k / t.m) (k % t.m)) x) o (eq-eqb (entry_of (k / t.m) (k % t.m)) x q)

-- how often x stands in a list of one or none
count_one : (b : Bool) (y x : ℕ) → count_by (λ z. eqb z x) (cond b (y ∷ []) []) ≡ cond (b && eqb y x) 1 0
count_one true y x = zero_plus (cond (eqb y x) 1 0)
  where
    zero_plus : (k : ℕ) → 0 + k ≡ k
    zero_plus k = omega arith
count_one false y x = refl

-- a place below k, or at k, is below k + 1
place_more : (e : Bool) (p k : ℕ) → cond (e && ltb p k) 1 0 + cond (e && eqb p k) 1 0 ≡ cond (e && ltb p (suc k)) 1 0
place_more false p k = refl
place_more true p k =
    ⊎_elim
    (λ q. let a : ltb p k ≡ false = le-ltb p k (omega arith) in let b = eq-eqb p k q in let d : ltb p (suc k) ≡ true = lt-ltb p (suc k) (omega arith) in rw (a, b, d))
    (⊎_elim
    (λ q. let a : ltb p k ≡ true = lt-ltb p k q in let b : eqb p k ≡ false = ne_eqb p k (λ z. omega arith) in let d : ltb p (suc k) ≡ true = lt-ltb p (suc k) (omega arith) in rw (a, b, d))
    (λ q. let a : ltb p k ≡ false = le-ltb p k (omega arith) in let b : eqb p k ≡ false = ne_eqb p k (λ z. omega arith) in let d : ltb p (suc k) ≡ false = le-ltb p (suc k) (omega arith) in rw (a, b, d)))
    (cases_order p k)

-- how often x stands among the entries of the first k pairs
found : (t : Table) (x k : ℕ) → k ≤ t.n * t.m → count_by (λ z. eqb z x) (entries t k) ≡ cond (is_entry t x && ltb (place_of t x) k) 1 0
found t x zero h =
    ⊎_elim
    (λ e. let a : ltb (place_of t x) 0 ≡ false = le-ltb (place_of t x) 0 (omega arith) in sym (ap one (ap (λ (b : Bool). is_entry t x && b) a ∙ ap (λ (b : Bool). b && false) e)))
    (λ e. sym (ap one (ap (λ (b : Bool). b && ltb (place_of t x) 0) e)))
    (cases_Bool (is_entry t x))
  where
    one : Bool → ℕ
    one b = cond b 1 0
found t x (suc k) h =
    let y = entry_of (k / t.m) (k % t.m) in
    sum_by-append (λ z. cond (eqb z x) 1 0) (entries t k) (cond (open_at t k) (y ∷ []) [])
    ∙ ap (λ i. i + count_by (λ z. eqb z x) (cond (open_at t k) (y ∷ []) [])) (found t x k (omega arith))
    ∙ ap (λ i. cond (is_entry t x && ltb (place_of t x) k) 1 0 + i) (count_one (open_at t k) y x ∙ ap (λ (b : Bool). cond b 1 0) (hit t x k (omega arith)))
    ∙ place_more (is_entry t x) (place_of t x) k

-- each entry stands once among all of them, and nothing else does
found_all : (t : Table) (x : ℕ) → count_by (λ z. eqb z x) (entries t (cells_needed t)) ≡ cond (is_entry t x) 1 0
found_all t x =
    found t x (cells_needed t) (omega arith)
    ∙ ⊎_elim
    (λ e.
    let v = and_parts (ltb (x / 16) t.n) (ltb (x % 16) t.m && undecided_at t (x / 16) (x % 16)) e in
    let w = and_parts (ltb (x % 16) t.m) (undecided_at t (x / 16) (x % 16)) v.1 in
    let l : place_of t x < t.n * t.m =
    omega (arith, mul-add-lt (x / 16) t.m (x % 16) t.n (ltb-true (x / 16) t.n v.0) (ltb-true (x % 16) t.m w.0), mul_comm t.n t.m) in
    let a : ltb (place_of t x) (cells_needed t) ≡ true = lt-ltb (place_of t x) (cells_needed t) l in
    rw (e, a))
    (λ e. rw e)
    (cases_Bool (is_entry t x))

-- what the list holds after it was written
pub listed : (t : Table) (before after : List ℕ) → after ≡ entries t (cells_needed t) ++ drop (undecided_count t) before → Listed t before after
listed t before after e =
    let l = length_entries t (cells_needed t) in
    record {
      each_once = λ x.
          ap (λ ys. count_by (λ z. eqb z x) (take (undecided_count t) ys)) e
          ∙ ap (count_by (λ z. eqb z x)) (take_at (entries t (cells_needed t)) (drop (undecided_count t) before) (undecided_count t) l)
          ∙ found_all t x;
      rest =
          ap (drop (undecided_count t)) e
          ∙ drop_at (entries t (cells_needed t)) (drop (undecided_count t) before) (undecided_count t) l;
    }

pub when_listed : (t : Table) (k : Option Refusal) (before after : List ℕ) → k ≡ None → Listed t before after → Lists t k before after
when_listed t k before after z h = subst (λ (j : Option Refusal). Lists t j before after) (sym z) h
