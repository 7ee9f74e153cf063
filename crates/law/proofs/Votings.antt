-- The steps of bits, of one item, over plain functions from nodes.
use Rattle.std.proofs.Common.{◌≡◌, ℕ, ◌<◌, ◌≤◌, Bool, true, false, cond, eqb, List, map, sym, refl, ap, ◌∙◌, subst, inl, inr, arith}
use Rattle.std.proofs.lemmas.Bool.{true≢false, false≢true, eqb-true, eq-eqb, leb-true, le-leb, cases_Bool}
use Rattle.std.specs.List.{range_with_len}
use Rattle.closing.specs.declared.types.Phase.{Phase}
use Rattle.closing.specs.declared.types.Phase.TheVariants.{Poll, Echo, ToZero, ToOne, Toss}
use Rattle.closing.specs.Counting.{mark_of, votes}
use Rattle.closing.specs.Closings.{has_votes, to_zero, to_one, by_toss, sends_cells}
use Rattle.law.proofs.Tallies.{tally, tally_cases, counted}
use Rattle.law.proofs.Quorums.{Quorum, clash, all_honest, honests, honests_in, honests_out}

-- the bit and whether it is decided, in a step of this phase
abbrev pub vote : Phase → ℕ → Bool → List ℕ → Bool × Bool
vote Poll q toss marks = (toss, false)
vote Echo q toss marks = (toss, false)
vote ToZero q toss marks = to_zero q marks
vote ToOne q toss marks = to_one q marks
vote Toss q toss marks = by_toss q toss marks

module _ (n : ℕ) (faulty : ℕ → Bool) (q : ℕ) where
  -- a node heard the bit b from q nodes
  abbrev pub heard : (ℕ → ℕ) → Bool → Bool
  heard h b = has_votes q b (map h (range_with_len 0 n))

  abbrev pub TrueTo : (ℕ → ℕ) → (ℕ → Bool) → Type 0
  TrueTo h bit = (i : ℕ) → i < n → faulty i ≡ false → h i ≡ mark_of (bit i)

  abbrev pub All : Bool → (ℕ → Bool) → Type 0
  All b bit = (i : ℕ) → i < n → faulty i ≡ false → bit i ≡ b

  abbrev pub voted : Phase → (ℕ → ℕ) → Bool → Bool × Bool
  voted p h toss = vote p q toss (map h (range_with_len 0 n))

  module _ (w : ℕ) (Q : Quorum n faulty q w) where
    heard_tally : (h : ℕ → ℕ) (b : Bool) → heard h b ≡ true → q ≤ tally n (λ i. eqb (h i) (mark_of b))
    heard_tally h b e = subst (λ k. q ≤ k) (counted (λ k. eqb k (mark_of b)) h n) (leb-true q (votes b (map h (range_with_len 0 n))) e)

    pub not_both : (bit : ℕ → Bool) (h h' : ℕ → ℕ) → TrueTo h bit → TrueTo h' bit → heard h false ≡ true → heard h' true ≡ true → ⊥
    not_both bit h h' f f' z o =
        clash n faulty q w Q (λ i. eqb (h i) 2) (λ i. eqb (h' i) 3) (heard_tally h false z) (heard_tally h' true o)
        (λ i l s a b.
        let x : h i ≡ 2 = eqb-true (h i) 2 a in
        let y : h' i ≡ 3 = eqb-true (h' i) 3 b in
        let e : h i ≡ h' i = f i l s ∙ sym (f' i l s) in
        omega arith)

    pub all_heard : (b : Bool) (bit : ℕ → Bool) (h : ℕ → ℕ) → TrueTo h bit → All b bit → heard h b ≡ true
    all_heard b bit h f a =
        le-leb q (votes b (map h (range_with_len 0 n)))
        (subst (λ k. q ≤ k) (sym (counted (λ k. eqb k (mark_of b)) h n))
        (all_honest n faulty q w Q (λ i. eqb (h i) (mark_of b))
        (λ i l s. eq-eqb (h i) (mark_of b) (f i l s ∙ ap mark_of (a i l s)))))

    pub no_zeros : (bit : ℕ → Bool) (h h' : ℕ → ℕ) → TrueTo h bit → TrueTo h' bit → heard h' true ≡ true → heard h false ≡ false
    no_zeros bit h h' f f' o = elim (cases_Bool (heard h false)) [ inl z ↦ absurd (not_both bit h h' f f' z o) | inr e ↦ e ]

    pub no_ones : (bit : ℕ → Bool) (h h' : ℕ → ℕ) → TrueTo h bit → TrueTo h' bit → heard h false ≡ true → heard h' true ≡ false
    no_ones bit h h' f f' z = elim (cases_Bool (heard h' true)) [ inl o ↦ absurd (not_both bit h h' f f' z o) | inr e ↦ e ]

    vote_zeros : (p : Phase) (h : ℕ → ℕ) (toss : Bool) → sends_cells p ≡ false → heard h false ≡ true → heard h true ≡ false → (voted p h toss).0 ≡ false
    vote_zeros p h toss e a b = grind arith

    vote_ones : (p : Phase) (h : ℕ → ℕ) (toss : Bool) → sends_cells p ≡ false → heard h false ≡ false → heard h true ≡ true → (voted p h toss).0 ≡ true
    vote_ones p h toss e a b = grind arith

    -- all honest bits alike stay so, whatever is tossed
    pub vote_all : (p : Phase) → sends_cells p ≡ false → (b : Bool) (bit : ℕ → Bool) (h : ℕ → ℕ) (toss : Bool) → TrueTo h bit → All b bit → (voted p h toss).0 ≡ b
    vote_all p e true bit h toss f a =
        let o = all_heard true bit h f a in
        vote_ones p h toss e (no_zeros bit h h f f o) o
    vote_all p e false bit h toss f a =
        let z = all_heard false bit h f a in
        vote_zeros p h toss e z (no_ones bit h h f f z)

    -- zeros alike decide in a step to 0, ones alike in a step to 1
    pub zeros_decide : (bit : ℕ → Bool) (h : ℕ → ℕ) (toss : Bool) → TrueTo h bit → All false bit → (voted ToZero h toss).1 ≡ true
    zeros_decide bit h toss f a = let z = all_heard false bit h f a in rw z

    pub ones_decide : (bit : ℕ → Bool) (h : ℕ → ℕ) (toss : Bool) → TrueTo h bit → All true bit → (voted ToOne h toss).1 ≡ true
    ones_decide bit h toss f a = let o = all_heard true bit h f a in rw o

    decides_zero : (z o : Bool) → ◌≡◌ {A = Bool} (cond {A = Bool × Bool} z (false, true) (cond o (true, false) (false, false))).1 true → z ≡ true
    decides_zero z o e = grind arith

    decides_one : (o z : Bool) → ◌≡◌ {A = Bool} (cond {A = Bool × Bool} o (true, true) (cond z (false, false) (true, false))).1 true → o ≡ true
    decides_one o z e = grind arith

    decides_toss : (z o t : Bool) → ◌≡◌ {A = Bool} (cond {A = Bool × Bool} z (false, false) (cond o (true, false) (t, false))).1 true → ⊥
    decides_toss z o t e = grind arith

    -- where one decides, all vote alike
    pub decided_all : (p : Phase) (bit : ℕ → Bool) (h : ℕ → ℕ) (toss : Bool) → TrueTo h bit → (voted p h toss).1 ≡ true →
        (b : Bool) × ((h' : ℕ → ℕ) (toss : Bool) → TrueTo h' bit → (voted p h' toss).0 ≡ b)
    decided_all Poll bit h toss f e = absurd (false≢true e)
    decided_all Echo bit h toss f e = absurd (false≢true e)
    decided_all ToZero bit h toss f e =
        let z = decides_zero (heard h false) (heard h true) e in
        (false, λ h' toss f'. let o = no_ones bit h h' f f' z in rw o (zeros (heard h' false)))
      where
        zeros : (z : Bool) → ◌≡◌ {A = Bool} (cond {A = Bool × Bool} z (false, true) (cond false (true, false) (false, false))).0 false
        zeros true = refl
        zeros false = refl
    decided_all ToOne bit h toss f e =
        let o = decides_one (heard h true) (heard h false) e in
        (true, λ h' toss f'. let z = no_zeros bit h' h f' f o in rw z (ones (heard h' true)))
      where
        ones : (o : Bool) → ◌≡◌ {A = Bool} (cond {A = Bool × Bool} o (true, true) (cond false (false, false) (true, false))).0 true
        ones true = refl
        ones false = refl
    decided_all Toss bit h toss f e = absurd (decides_toss (heard h false) (heard h true) toss e)

    -- one of the two tosses makes all honest bits alike
    pub one_toss : (bit : ℕ → Bool) (h : ℕ → ℕ → ℕ) → ((j : ℕ) → j < n → faulty j ≡ false → TrueTo (h j) bit) →
        (b : Bool) × ((j : ℕ) → j < n → faulty j ≡ false → (voted Toss (h j) b).0 ≡ b)
    one_toss bit h f =
        elim (tally_cases n (honests n faulty (λ j. heard (h j) true))) [
          | inl none ↦ (false, λ j l s. zeros (heard (h j) false) (heard (h j) true) (λ o. false≢true (sym (none j l) ∙ honests_in n faulty (λ j. heard (h j) true) j s o)))
          | inr x ↦
              let o = honests_out n faulty (λ j. heard (h j) true) x.0 x.2 in
              (true, λ j l s. ones (heard (h j) false) (heard (h j) true) (no_zeros bit (h j) (h x.0) (f j l s) (f x.0 x.1 o.0) o.1))
        ]
      where
        zeros : (z o : Bool) → (o ≡ true → ⊥) → ◌≡◌ {A = Bool} (cond {A = Bool × Bool} z (false, false) (cond o (true, false) (false, false))).0 false
        zeros true o k = refl
        zeros false true k = absurd (k refl)
        zeros false false k = refl

        ones : (z o : Bool) → z ≡ false → ◌≡◌ {A = Bool} (cond {A = Bool × Bool} z (false, false) (cond o (true, false) (true, false))).0 true
        ones true o k = absurd (true≢false k)
        ones false true k = refl
        ones false false k = refl
