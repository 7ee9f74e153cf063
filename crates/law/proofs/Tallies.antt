-- Counting: the laws of `tally`.
use Rattle.std.proofs.Common.{◌≡◌, ℕ, zero, suc, ◌+◌, ◌<◌, ◌≤◌, Bool, true, false, cond, ◌⊎◌, map, count_by, sym, refl, ap, ◌∙◌, inl, inr, zero-le, not-suc-le-zero, arith}
use Rattle.std.proofs.lemmas.Bool.{false≢true}
use Rattle.std.specs.List.{range_with_len}
use Rattle.std.proofs.lemmas.List.FromFn.{sum_by-map-range_with_len_more}
use Rattle.std.proofs.lemmas.List.{map-id}

-- how many of the numbers below n pass the test
unfoldable pub tally : ℕ → (ℕ → Bool) → ℕ
tally zero p = 0
tally (suc n) p = cond (p n) (suc (tally n p)) (tally n p)

-- each number below suc n is below n, or is n
pub below_suc : (n i : ℕ) → i < suc n → (i < n) ⊎ (i ≡ n)
below_suc n i l = grind arith

cover_step : (p q r : Bool) (x y z : ℕ) → (p ≡ true → (q ≡ true) ⊎ (r ≡ true)) → x ≤ y + z → cond p (suc x) x ≤ cond q (suc y) y + cond r (suc z) z
cover_step p q r x y z h l = grind arith

-- what passes p passes q or r
pub tally_cover : (n : ℕ) (p q r : ℕ → Bool) → ((i : ℕ) → i < n → p i ≡ true → (q i ≡ true) ⊎ (r i ≡ true)) → tally n p ≤ tally n q + tally n r
unfolding tally
tally_cover zero p q r h = zero-le
tally_cover (suc n) p q r h = cover_step (p n) (q n) (r n) _ _ _ (h n (omega arith)) (tally_cover n p q r (λ i l. h i (omega arith)))

apart_step : (p q r : Bool) (x y z : ℕ) → (p ≡ true → r ≡ true) → (q ≡ true → r ≡ true) → (p ≡ true → q ≡ true → ⊥) → x + y ≤ z → cond p (suc x) x + cond q (suc y) y ≤ cond r (suc z) z
apart_step p q r x y z hp hq nay l = grind arith

-- p and q never pass together, and what passes either passes r
pub tally_apart : (n : ℕ) (p q r : ℕ → Bool) → ((i : ℕ) → i < n → p i ≡ true → r i ≡ true) → ((i : ℕ) → i < n → q i ≡ true → r i ≡ true) →
    ((i : ℕ) → i < n → p i ≡ true → q i ≡ true → ⊥) → tally n p + tally n q ≤ tally n r
unfolding tally
tally_apart zero p q r hp hq nay = omega arith
tally_apart (suc n) p q r hp hq nay =
    apart_step (p n) (q n) (r n) _ _ _ (hp n (omega arith)) (hq n (omega arith)) (nay n (omega arith))
    (tally_apart n p q r (λ i l. hp i (omega arith)) (λ i l. hq i (omega arith)) (λ i l. nay i (omega arith)))

never : ℕ → Bool
never i = false

tally_never : (n : ℕ) → tally n never ≡ 0
unfolding tally never
tally_never zero = refl
tally_never (suc n) = tally_never n

pub tally_mono : (n : ℕ) (p q : ℕ → Bool) → ((i : ℕ) → i < n → p i ≡ true → q i ≡ true) → tally n p ≤ tally n q
tally_mono n p q h = omega (arith, tally_cover n p q never (λ i l e. inl (h i l e)), tally_never n)

-- all fail, or one passes
pub tally_cases : (n : ℕ) (p : ℕ → Bool) → ((i : ℕ) → i < n → p i ≡ false) ⊎ ((i : ℕ) × (i < n) × (p i ≡ true))
tally_cases zero p = inl (λ i l. absurd (not-suc-le-zero l))
tally_cases (suc n) p = go (p n) refl (tally_cases n p)
  where
    go : (b : Bool) → p n ≡ b → ((i : ℕ) → i < n → p i ≡ false) ⊎ ((i : ℕ) × (i < n) × (p i ≡ true)) → ((i : ℕ) → i < suc n → p i ≡ false) ⊎ ((i : ℕ) × (i < suc n) × (p i ≡ true))
    go true e r = inr (n, omega arith, e)
    go false e (inl h) = inl (λ i l. elim (below_suc n i l) [ inl k ↦ h i k | inr k ↦ ap p k ∙ e ])
    go false e (inr w) = inr (w.0, omega arith, w.2)

-- a positive count has a witness
pub tally_some : (n : ℕ) (p : ℕ → Bool) → 0 < tally n p → (i : ℕ) × (i < n) × (p i ≡ true)
tally_some n p h =
    elim (tally_cases n p) [
      | inl none ↦ absurd (omega (arith, tally_mono n p never (λ i l e. absurd (false≢true (sym (none i l) ∙ e))), tally_never n))
      | inr w ↦ w
    ]

pos_step : (b : Bool) (x : ℕ) → b ≡ true → 0 < cond b (suc x) x
pos_step b x e = grind arith

up_step : (b : Bool) (x : ℕ) → 0 < x → 0 < cond b (suc x) x
up_step b x e = grind arith

pub tally_pos : (n : ℕ) (p : ℕ → Bool) (i : ℕ) → i < n → p i ≡ true → 0 < tally n p
unfolding tally
tally_pos zero p i l e = absurd (not-suc-le-zero l)
tally_pos (suc n) p i l e =
    elim (below_suc n i l) [ inl k ↦ up_step (p n) _ (tally_pos n p i k e) | inr k ↦ pos_step (p n) _ (ap p (sym k) ∙ e) ]

one_more : (b : Bool) (x : ℕ) → x + cond b 1 0 ≡ cond b (suc x) x
one_more b x = grind arith

-- a count over the list of what the nodes gave is a tally
pub counted : {X : Type 0} (p : X → Bool) (f : ℕ → X) (n : ℕ) → count_by p (map f (range_with_len 0 n)) ≡ tally n (λ i. p (f i))
unfolding tally
counted p f zero = refl
counted p f (suc n) =
    let s : suc n ≡ n + 1 = omega arith in
    ap (λ k. count_by p (map f (range_with_len 0 k))) s
    ∙ sum_by-map-range_with_len_more (λ x. cond (p x) 1 0) f 0 n n (omega arith)
    ∙ ap (λ k. k + cond (p (f n)) 1 0) (counted p f n)
    ∙ one_more (p (f n)) (tally n (λ i. p (f i)))

-- and so is one over the nodes
pub counted_nodes : (p : ℕ → Bool) (n : ℕ) → count_by p (range_with_len 0 n) ≡ tally n p
counted_nodes p n = ap (count_by p) (sym (map-id (range_with_len 0 n))) ∙ counted p (λ i. i) n
