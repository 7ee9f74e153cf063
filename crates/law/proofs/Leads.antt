-- The cell that enough nodes back.
use Rattle.std.proofs.Common.{◌≡◌, ℕ, zero, suc, ◌+◌, ◌<◌, ◌≤◌, Bool, true, false, cond, not, eqb, leb, ◌⊎◌, List, [], ◌∷◌, map, length, get_or, Some, None, Option, sym, refl, ap, ◌∙◌, subst, ap₂, inl, inr, not-suc-le-zero, arith}
use Rattle.std.proofs.lemmas.Bool.{false≢true, eqb-true, eq-eqb, leb-true, le-leb}
use Rattle.std.proofs.lemmas.List.FromFn.{length-map-range_with_len, get_or-map-range_with_len}
use Rattle.std.specs.List.{range_with_len}
use Rattle.closing.specs.Counting.{means, backers, backed, first, leading_of, by_grade}
use Rattle.law.proofs.Tallies.{tally, tally_some, counted}

-- the first cell, or where it is none the second
abbrev pub or_else : {A : Type 0} → Option A → Option A → Option A
or_else (Some a) b = Some a
or_else None b = b

abbrev pub is_none : {A : Type 0} → Option A → Bool
is_none (Some a) = false
is_none None = true

module _ {A : Type 0} where
  pub cases_option : (o : Option A) → (o ≡ None) ⊎ ((a : A) × (o ≡ Some a))
  cases_option None = inl refl
  cases_option (Some a) = inr (a, refl)

  pub some_none : (a : A) (o : Option A) → o ≡ Some a → o ≡ None → ⊥
  some_none a o p q = cc

  pub some_inj : (a b : A) (o : Option A) → o ≡ Some a → o ≡ Some b → a ≡ b
  some_inj a b o p q = cc

  pub or_some : (a : A) (x y : Option A) → or_else x y ≡ Some a → (x ≡ Some a) ⊎ (y ≡ Some a)
  or_some a x y e = grind arith

  pub or_has : (x y : Option A) (a : A) → y ≡ Some a → (b : A) × (or_else x y ≡ Some b)
  or_has (Some b) y a e = (b, refl)
  or_has None y a e = (a, e)

  pub or_none : (x y : Option A) → or_else x y ≡ None → (x ≡ None) × (y ≡ None)
  or_none x y e = grind arith

  -- the held cell and the first bit of a grade
  pub grade_held : (x y : Option A) → (by_grade x y).0 ≡ or_else x y
  grade_held x y = grind arith

  pub grade_bit : (x y : Option A) → not (eqb (by_grade x y).1 2) ≡ is_none x
  grade_bit x y = grind arith

  -- what the scan finds passes
  pub first_passes : (p : Option A → Bool) (xs : List (Option A)) (r : A) → first p xs ≡ Some r → p (Some r) ≡ true
  first_passes p [] r e = absurd (some_none r None e refl)
  first_passes p (x ∷ xs) r e = go (p x) refl e (first_passes p xs r)
    where
      go : (b : Bool) → p x ≡ b → cond b x (first p xs) ≡ Some r → (first p xs ≡ Some r → p (Some r) ≡ true) → p (Some r) ≡ true
      go true k h rec = ap p (sym h) ∙ k
      go false k h rec = rec h

  -- where a cell passes, and none does not, something is found
  pub first_finds : (p : Option A → Bool) → p None ≡ false → (xs : List (Option A)) (i : ℕ) → i < length xs → p (get_or xs i None) ≡ true → (r : A) × (first p xs ≡ Some r)
  first_finds p z [] i l e = absurd (not-suc-le-zero l)
  first_finds p z (x ∷ xs) i l e = go (p x) refl i l e (first_finds p z xs)
    where
      here : (o : Option A) → p o ≡ true → (r : A) × (o ≡ Some r)
      here (Some r) k = (r, refl)
      here None k = absurd (false≢true (sym z ∙ k))

      go : (b : Bool) → p x ≡ b → (i : ℕ) → i < suc (length xs) → p (get_or (x ∷ xs) i None) ≡ true
          → ((i : ℕ) → i < length xs → p (get_or xs i None) ≡ true → (r : A) × (first p xs ≡ Some r)) → (r : A) × (cond b x (first p xs) ≡ Some r)
      go true k i l e rec = here x k
      go false k zero l e rec = absurd (false≢true (sym k ∙ e))
      go false k (suc i) l e rec = rec i (omega arith) e

module _ {R : Type 0} (meaning : R → ℕ) where
  -- how many of n nodes gave a reading that means v
  abbrev pub backing : ℕ → (ℕ → Option R) → ℕ → ℕ
  backing n heard v = tally n (λ i. means meaning v (heard i))

  -- the cell of the lowest of n nodes whose meaning has q backers
  abbrev pub leads : ℕ → ℕ → (ℕ → Option R) → Option R
  leads n q heard = leading_of meaning q (map heard (range_with_len 0 n))

  pub reading : (v : ℕ) (o : Option R) → means meaning v o ≡ true → (r : R) × (o ≡ Some r) × (meaning r ≡ v)
  reading v (Some r) e = (r, refl, eqb-true (meaning r) v e)
  reading v None e = absurd (false≢true e)

  pub means_some : (o : Option R) (r : R) → o ≡ Some r → means meaning (meaning r) o ≡ true
  means_some o r e = rw e (eq-eqb (meaning r) (meaning r) refl)

  -- what leads has its count
  pub leads_backed : (n q : ℕ) (heard : ℕ → Option R) (r : R) → leads n q heard ≡ Some r → q ≤ backing n heard (meaning r)
  leads_backed n q heard r e =
      subst (λ k. q ≤ k) (counted (means meaning (meaning r)) heard n)
      (leb-true q (backers meaning (meaning r) (map heard (range_with_len 0 n))) (first_passes (backed meaning q (map heard (range_with_len 0 n))) (map heard (range_with_len 0 n)) r e))

  -- where a meaning has the count, something leads
  pub leads_has : (n q : ℕ) (heard : ℕ → Option R) (v : ℕ) → 0 < q → q ≤ backing n heard v → (r : R) × (leads n q heard ≡ Some r)
  leads_has n q heard v pos h =
      let s = tally_some n (λ i. means meaning v (heard i)) (omega arith) in
      let r = reading v (heard s.0) s.2 in
      let at : get_or (map heard (range_with_len 0 n)) s.0 None ≡ Some r.0 = get_or-map-range_with_len heard 0 n s.0 s.0 None s.1 (omega arith) ∙ r.1 in
      let b : leb q (backers meaning (meaning r.0) (map heard (range_with_len 0 n))) ≡ true =
      le-leb q _ (subst (λ k. q ≤ k) (sym (counted (means meaning (meaning r.0)) heard n)) (subst (λ u. q ≤ backing n heard u) (sym r.2) h)) in
      first_finds (backed meaning q (map heard (range_with_len 0 n))) refl (map heard (range_with_len 0 n)) s.0
      (subst (λ k. s.0 < k) (sym (length-map-range_with_len heard 0 n)) s.1) (ap (backed meaning q (map heard (range_with_len 0 n))) at ∙ b)

-- two lists of what the nodes gave are one where the nodes gave the same
pub heard_same : {X : Type 0} (n : ℕ) (f g : ℕ → X) → ((i : ℕ) → i < n → f i ≡ g i) → map f (range_with_len 0 n) ≡ map g (range_with_len 0 n)
heard_same n f g h = from 0 n (λ i l u. h i (omega arith))
  where
    from : (a k : ℕ) → ((i : ℕ) → a ≤ i → i < a + k → f i ≡ g i) → map f (range_with_len a k) ≡ map g (range_with_len a k)
    from a zero e = refl
    from a (suc k) e = ap₂ ◌∷◌ (e a (omega arith) (omega arith)) (from (a + 1) k (λ i l u. e i (omega arith) (omega arith)))
