-- What quorums of q and weak quorums of w nodes share, for any q and w under three facts.
use Rattle.std.proofs.Common.{◌≡◌, ℕ, ◌+◌, ◌*◌, ◌/◌, ◌<◌, ◌≤◌, Bool, true, false, not, ◌&&◌, sym, ◌∙◌, inl, inr, arith}
use Rattle.std.proofs.lemmas.Bool.{false≢true, and_parts, and_from, not-true, not_from_false, cases_Bool}
use Rattle.law.proofs.Tallies.{tally}
use Rattle.law.proofs.Tallies.{tally_cover, tally_apart, tally_mono, tally_some, tally_cases}

-- The honest of n nodes are a quorum, two quorums share an honest node, and a weak quorum is half a quorum, rounded up.
pub record Quorum (n : ℕ) (faulty : ℕ → Bool) (q w : ℕ) : Type 0 where
  pub enough : q ≤ tally n (λ i. not (faulty i))
  pub cross : tally n (λ i. not (faulty i)) + 2 * tally n faulty < 2 * q
  pub half : w ≡ (q + 1) / 2

module _ (n : ℕ) (faulty : ℕ → Bool) where
  -- the honest nodes that pass p
  abbrev pub honests : (ℕ → Bool) → ℕ → Bool
  honests p i = not (faulty i) && p i

  pub honests_in : (p : ℕ → Bool) (i : ℕ) → faulty i ≡ false → p i ≡ true → honests p i ≡ true
  honests_in p i s e = and_from (not (faulty i)) (p i) (not_from_false (faulty i) s) e

  pub honests_out : (p : ℕ → Bool) (i : ℕ) → honests p i ≡ true → (faulty i ≡ false) × (p i ≡ true)
  honests_out p i e = let h = and_parts (not (faulty i)) (p i) e in (not-true (faulty i) h.0, h.1)

  -- all but the faulty nodes of those that pass are honest
  pub most_honest : (p : ℕ → Bool) → tally n p ≤ tally n (honests p) + tally n faulty
  most_honest p = tally_cover n p (honests p) faulty
      (λ i l e. elim (cases_Bool (faulty i)) [ inl s ↦ inr s | inr s ↦ inl (honests_in p i s e) ])

  pub below_honest : (p p' : ℕ → Bool) → ((i : ℕ) → i < n → faulty i ≡ false → p i ≡ true → p' i ≡ true) → tally n (honests p) ≤ tally n (honests p')
  below_honest p p' h = tally_mono n (honests p) (honests p')
      (λ i l e. let o = honests_out p i e in honests_in p' i o.0 (h i l o.0 o.1))

  pub honests_le : (p : ℕ → Bool) → tally n (honests p) ≤ tally n p
  honests_le p = tally_mono n (honests p) p (λ i l e. (honests_out p i e).1)

  apart_honest : (p p' : ℕ → Bool) → ((i : ℕ) → i < n → faulty i ≡ false → p i ≡ true → p' i ≡ true → ⊥) →
      tally n (honests p) + tally n (honests p') ≤ tally n (λ i. not (faulty i))
  apart_honest p p' nay =
      tally_apart n (honests p) (honests p') (λ i. not (faulty i))
      (λ i l e. not_from_false (faulty i) (honests_out p i e).0) (λ i l e. not_from_false (faulty i) (honests_out p' i e).0)
      (λ i l e f. nay i l (honests_out p i e).0 (honests_out p i e).1 (honests_out p' i f).1)

  -- two majorities of the honest share a node
  pub meet : (p p' : ℕ → Bool) → tally n (λ i. not (faulty i)) < 2 * tally n (honests p) → tally n (λ i. not (faulty i)) < 2 * tally n (honests p') →
      (i : ℕ) × (i < n) × (faulty i ≡ false) × (p i ≡ true) × (p' i ≡ true)
  meet p p' a b =
      elim (tally_cases n (honests (λ i. p i && p' i))) [
        | inl none ↦ absurd (omega (arith, apart_honest p p' (λ i l s e f. false≢true (sym (none i l) ∙ honests_in (λ i. p i && p' i) i s (and_from (p i) (p' i) e f)))))
        | inr w ↦ let o = honests_out (λ i. p i && p' i) w.0 w.2 in let h = and_parts (p w.0) (p' w.0) o.1 in (w.0, w.1, o.0, h.0, h.1)
      ]

  module _ (q w : ℕ) (Q : Quorum n faulty q w) where
    -- two quorums share an honest node
    pub clash : (p p' : ℕ → Bool) → q ≤ tally n p → q ≤ tally n p' →
        ((i : ℕ) → i < n → faulty i ≡ false → p i ≡ true → p' i ≡ true → ⊥) → ⊥
    clash p p' a b nay = omega (arith, most_honest p, most_honest p', apart_honest p p' nay, Q.cross)

    -- the honest nodes are a quorum
    pub all_honest : (p : ℕ → Bool) → ((i : ℕ) → i < n → faulty i ≡ false → p i ≡ true) → q ≤ tally n p
    all_honest p h = omega (arith, Q.enough, tally_mono n (λ i. not (faulty i)) p (λ i l e. h i l (not-true (faulty i) e)))

    -- the weak quorum has an honest node
    pub weak_honest : (p : ℕ → Bool) → w ≤ tally n p → (i : ℕ) × (i < n) × (faulty i ≡ false) × (p i ≡ true)
    weak_honest p a =
        let h : 0 < tally n (honests p) = omega (arith, most_honest p, Q.cross, Q.enough, Q.half) in
        let s = tally_some n (honests p) h in
        let o = honests_out p s.0 s.2 in
        (s.0, s.1, o.0, o.1)

    pub weak_below : w ≤ q
    weak_below = omega (arith, Q.cross, Q.enough, Q.half)

    -- what a quorum says at one node, the weak quorum says at each
    pub carried : (p p' : ℕ → Bool) → q ≤ tally n p → ((i : ℕ) → i < n → faulty i ≡ false → p i ≡ true → p' i ≡ true) → w ≤ tally n p'
    carried p p' a h = omega (arith, most_honest p, below_honest p p' h, honests_le p', Q.cross, Q.enough, Q.half)

    -- a quorum has a majority of the honest
    pub majority : (p p' : ℕ → Bool) → q ≤ tally n p → ((i : ℕ) → i < n → faulty i ≡ false → p i ≡ true → p' i ≡ true) →
        tally n (λ i. not (faulty i)) < 2 * tally n (honests p')
    majority p p' a h = omega (arith, most_honest p, below_honest p p' h, Q.cross)
