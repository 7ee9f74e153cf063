-- Where all honest nodes begin an item alike, they decide it so by step 4.
use Rattle.std.proofs.Common.{◌≡◌, ℕ, suc, ◌+◌, ◌*◌, ◌<◌, ◌≤◌, Bool, true, false, Some, None, sym, refl, ap, ◌∙◌, arith}
use Rattle.std.proofs.lemmas.Bool.{true≢false, or_right}
use Rattle.coin.specs.Tosses.{toss_of}
use Rattle.closing.specs.declared.types.Phase.{Phase}
use Rattle.closing.specs.declared.types.Phase.TheVariants.{Poll, Echo, ToZero, ToOne, Toss}
use Rattle.closing.specs.Closings.{sends_cells}
use Rattle.agreement.specs.Closes.{next_phase}
use Rattle.law.specs.Runs.{Tosses}
use Rattle.law.proofs.Quorums.{Quorum}
use Rattle.law.proofs.Leads.{or_else, is_none, leads, or_none}
use Rattle.law.proofs.Ballots.{Holding, Blank, quorum_holds, blank_held}
use Rattle.law.proofs.Votings.{voted, zeros_decide, ones_decide}
use Rattle.law.proofs.Items.{Item, Closing, Timely, step_number, timely_next, step_next, hears, marks_bits, votes_at, value_polled, value_echoed, value_stays, bit_echoed, decided_voted}
use Rattle.law.proofs.Stages.{AllDecided, AllBits, decided_stays, bits_stay}

-- the phases as cases
pub data Kind (p : Phase) : Type 0 where
  poll : p ≡ Poll → Kind p
  echo : p ≡ Echo → Kind p
  to_zero : p ≡ ToZero → Kind p
  to_one : p ≡ ToOne → Kind p
  toss : p ≡ Toss → Kind p

pub kind : (p : Phase) → Kind p
kind Poll = poll refl
kind Echo = echo refl
kind ToZero = to_zero refl
kind ToOne = to_one refl
kind Toss = toss refl

module _ {R : Type 0} (meaning : R → ℕ) (n : ℕ) (faulty : ℕ → Bool) where
  abbrev pub step_of : Item R → ℕ
  step_of x = step_number x.phase x.round

  -- All honest nodes hold v, and have bit 0 from step 3 on; they have decided from step 4 on.
  pub record Sure (v : ℕ) (x : Item R) : Type 0 where
    pub timely : Timely x.phase x.round
    pub holds : Holding meaning n faulty v x.value
    pub bits : sends_cells x.phase ≡ false → AllBits meaning n faulty false x
    pub decided : 4 ≤ step_of x → AllDecided meaning n faulty x

  -- All honest nodes have none, and have bit 1 from step 3 on; they have decided from step 5 on.
  pub record Empty (x : Item R) : Type 0 where
    pub timely : Timely x.phase x.round
    pub blank : Blank meaning n faulty x.value
    pub bits : sends_cells x.phase ≡ false → AllBits meaning n faulty true x
    pub decided : 5 ≤ step_of x → AllDecided meaning n faulty x

  module _ (q w c : ℕ) (Q : Quorum n faulty q w) (f : Tosses) (x y : Item R) (k : Closing meaning n faulty q w c f x y) where
    pub closing_timely : Timely x.phase x.round → Timely y.phase y.round
    closing_timely t = rw (k.phase, k.round) (timely_next x.phase x.round t)

    pub closing_step : Timely x.phase x.round → step_of y ≡ suc (step_of x)
    closing_step t = grind (arith, step_next)

    -- a node decides now that was shown to vote so
    decides_now : (i : ℕ) → i < n → faulty i ≡ false → (p : Phase) → x.phase ≡ p → sends_cells p ≡ false →
        (voted n faulty q p (k.marks i) (toss_of f i x.round c)).1 ≡ true → y.decided i ≡ true
    decides_now i l s p e h v =
        decided_voted meaning n faulty q w c f x y k i l s (ap sends_cells e ∙ h)
        ∙ or_right (x.decided i) (votes_at meaning n faulty q w c f x y k i).1
        (ap (λ u. (voted n faulty q u (k.marks i) (toss_of f i x.round c)).1) e ∙ v)

    pub zeros_now : x.phase ≡ ToZero → AllBits meaning n faulty false x → AllDecided meaning n faulty y
    zeros_now e a i l s = decides_now i l s ToZero e refl (zeros_decide n faulty q w Q x.bit (k.marks i) (toss_of f i x.round c) (marks_bits meaning n faulty q w c f x y k i) a)

    pub ones_now : x.phase ≡ ToOne → AllBits meaning n faulty true x → AllDecided meaning n faulty y
    ones_now e a i l s = decides_now i l s ToOne e refl (ones_decide n faulty q w Q x.bit (k.marks i) (toss_of f i x.round c) (marks_bits meaning n faulty q w c f x y k i) a)

    pub stays_decided : AllDecided meaning n faulty x → AllDecided meaning n faulty y
    stays_decided d i l s = decided_stays meaning n faulty q w c Q f x y k i l s (d i l s)

    sure_quorum : (v : ℕ) → Sure v x → (j : ℕ) → (r : R) × (leads meaning n q (k.cells j) ≡ Some r) × (meaning r ≡ v)
    sure_quorum v g j = quorum_holds meaning n faulty q w Q v x.value (k.cells j) (hears meaning n faulty q w c f x y k j) g.holds

    sure_holds : (v : ℕ) → Sure v x → Kind x.phase → Holding meaning n faulty v y.value
    sure_holds v g (poll e) i l s = let r = sure_quorum v g i in (r.0, value_polled meaning n faulty q w c f x y k i l s e ∙ r.1, r.2)
    sure_holds v g (echo e) i l s =
        let r = sure_quorum v g i in
        (r.0, value_echoed meaning n faulty q w c f x y k i l s e ∙ ap (λ o. or_else o (leads meaning n w (k.cells i))) r.1, r.2)
    sure_holds v g (to_zero e) i l s = let h = g.holds i l s in (h.0, value_stays meaning n faulty q w c f x y k i l s (ap sends_cells e) ∙ h.1, h.2)
    sure_holds v g (to_one e) i l s = let h = g.holds i l s in (h.0, value_stays meaning n faulty q w c f x y k i l s (ap sends_cells e) ∙ h.1, h.2)
    sure_holds v g (toss e) i l s = let h = g.holds i l s in (h.0, value_stays meaning n faulty q w c f x y k i l s (ap sends_cells e) ∙ h.1, h.2)

    sure_bits : (v : ℕ) → Sure v x → Kind x.phase → sends_cells y.phase ≡ false → AllBits meaning n faulty false y
    sure_bits v g (poll e) h = absurd (true≢false (sym (ap sends_cells (k.phase ∙ ap next_phase e)) ∙ h))
    sure_bits v g (echo e) h = λ i l s. bit_echoed meaning n faulty q w c f x y k i l s e ∙ ap is_none (sure_quorum v g i).1
    sure_bits v g (to_zero e) h = bits_stay meaning n faulty q w c Q f x y k (ap sends_cells e) false (g.bits (ap sends_cells e))
    sure_bits v g (to_one e) h = bits_stay meaning n faulty q w c Q f x y k (ap sends_cells e) false (g.bits (ap sends_cells e))
    sure_bits v g (toss e) h = bits_stay meaning n faulty q w c Q f x y k (ap sends_cells e) false (g.bits (ap sends_cells e))

    sure_decided : (v : ℕ) → Sure v x → Kind x.phase → 4 ≤ step_of y → AllDecided meaning n faulty y
    sure_decided v g (poll e) h = let u : step_of x ≡ 1 = ap (λ p. step_number p x.round) e in absurd (omega (arith, closing_step g.timely))
    sure_decided v g (echo e) h = let u : step_of x ≡ 2 = ap (λ p. step_number p x.round) e in absurd (omega (arith, closing_step g.timely))
    sure_decided v g (to_zero e) h = zeros_now e (g.bits (ap sends_cells e))
    sure_decided v g (to_one e) h =
        let u : step_of x ≡ 3 * x.round + 1 = ap (λ p. step_number p x.round) e in
        let b = g.timely.begun in
        stays_decided (g.decided (omega arith))
    sure_decided v g (toss e) h =
        let u : step_of x ≡ 3 * x.round + 2 = ap (λ p. step_number p x.round) e in
        let b = g.timely.begun in
        stays_decided (g.decided (omega arith))

    pub sure_closes : (v : ℕ) → Sure v x → Sure v y
    sure_closes v g = record {
      timely = closing_timely g.timely;
      holds = sure_holds v g (kind x.phase);
      bits = sure_bits v g (kind x.phase);
      decided = sure_decided v g (kind x.phase);
    }

    empty_held : Empty x → (j : ℕ) → or_else (leads meaning n q (k.cells j)) (leads meaning n w (k.cells j)) ≡ None
    empty_held g j = blank_held meaning n faulty q w Q x.value (k.cells j) (hears meaning n faulty q w c f x y k j) g.blank

    empty_quorum : Empty x → (j : ℕ) → leads meaning n q (k.cells j) ≡ None
    empty_quorum g j = (or_none (leads meaning n q (k.cells j)) (leads meaning n w (k.cells j)) (empty_held g j)).0

    empty_blank : Empty x → Kind x.phase → Blank meaning n faulty y.value
    empty_blank g (poll e) i l s = value_polled meaning n faulty q w c f x y k i l s e ∙ empty_quorum g i
    empty_blank g (echo e) i l s = value_echoed meaning n faulty q w c f x y k i l s e ∙ empty_held g i
    empty_blank g (to_zero e) i l s = value_stays meaning n faulty q w c f x y k i l s (ap sends_cells e) ∙ g.blank i l s
    empty_blank g (to_one e) i l s = value_stays meaning n faulty q w c f x y k i l s (ap sends_cells e) ∙ g.blank i l s
    empty_blank g (toss e) i l s = value_stays meaning n faulty q w c f x y k i l s (ap sends_cells e) ∙ g.blank i l s

    empty_bits : Empty x → Kind x.phase → sends_cells y.phase ≡ false → AllBits meaning n faulty true y
    empty_bits g (poll e) h = absurd (true≢false (sym (ap sends_cells (k.phase ∙ ap next_phase e)) ∙ h))
    empty_bits g (echo e) h = λ i l s. bit_echoed meaning n faulty q w c f x y k i l s e ∙ ap is_none (empty_quorum g i)
    empty_bits g (to_zero e) h = bits_stay meaning n faulty q w c Q f x y k (ap sends_cells e) true (g.bits (ap sends_cells e))
    empty_bits g (to_one e) h = bits_stay meaning n faulty q w c Q f x y k (ap sends_cells e) true (g.bits (ap sends_cells e))
    empty_bits g (toss e) h = bits_stay meaning n faulty q w c Q f x y k (ap sends_cells e) true (g.bits (ap sends_cells e))

    empty_decided : Empty x → Kind x.phase → 5 ≤ step_of y → AllDecided meaning n faulty y
    empty_decided g (poll e) h = let u : step_of x ≡ 1 = ap (λ p. step_number p x.round) e in absurd (omega (arith, closing_step g.timely))
    empty_decided g (echo e) h = let u : step_of x ≡ 2 = ap (λ p. step_number p x.round) e in absurd (omega (arith, closing_step g.timely))
    empty_decided g (to_zero e) h =
        let u : step_of x ≡ 3 * x.round = ap (λ p. step_number p x.round) e in
        stays_decided (g.decided (omega (arith, closing_step g.timely)))
    empty_decided g (to_one e) h = ones_now e (g.bits (ap sends_cells e))
    empty_decided g (toss e) h =
        let u : step_of x ≡ 3 * x.round + 2 = ap (λ p. step_number p x.round) e in
        let b = g.timely.begun in
        stays_decided (g.decided (omega arith))

    pub empty_closes : Empty x → Empty y
    empty_closes g = record {
      timely = closing_timely g.timely;
      blank = empty_blank g (kind x.phase);
      bits = empty_bits g (kind x.phase);
      decided = empty_decided g (kind x.phase);
    }
