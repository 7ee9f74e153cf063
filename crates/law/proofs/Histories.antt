-- Calls with their answers: which world each call met, and how many steps were behind.
use Rattle.std.proofs.Common.{◌≡◌, ℕ, zero, suc, ◌+◌, ◌<◌, ◌≤◌, Bool, true, false, cond, not, ◌&&◌, leb, List, [], ◌∷◌, ◌++◌, take, Some, None, Option, sym, refl, ap, ◌∙◌, arith, Ok, Err, Result, is_err}
use Rattle.std.proofs.lemmas.Bool.{true≢false, leb-false}
use Rattle.std.proofs.lemmas.List.Sums.{sum_by-cons}
use Rattle.std.proofs.Math.Seq.{take-nil}
use Rattle.std.specs.List.{slice_get}
use Rattle.refusal.specs.declared.Refusal.{Refusal}
use Rattle.refusal.specs.declared.Refusal.TheVariants.{Short, NoNode, NoItem, FaultyNode, Over}
use Rattle.refusal.specs.Refusals.{answered, refuse}
use Rattle.board.specs.declared.states.Table.{Table}
use Rattle.board.specs.Tables.{faulty_at, bit_at, decided_at, value_at}
use Rattle.board.specs.declared.states.Decision.TheVariants.{Undecided, Decided}
use Rattle.board.specs.Looks.{decision_of}
use Rattle.agreement.specs.Calls.{is_over}
use Rattle.law.specs.declared.calls.Call.{Call}
use Rattle.law.specs.declared.calls.Call.TheVariants as call
use Rattle.law.specs.declared.calls.Told.{Told}
use Rattle.law.specs.declared.calls.Told.TheVariants.{Done, Decision}
use Rattle.law.specs.Runs.{World, Move, Asked, Ask, refusal, effect, says, after, answered_by, run, history, outcome_history, outcome_answer}
use Rattle.board.specs.Setups.{if_accepted}
use Rattle.law.specs.Law.{is_close, closes_before}
use Rattle.law.proofs.Items.{Timely, step_number, step_next}
use Rattle.law.proofs.Worlds.{Fits, fits_after}

-- an accepted close
abbrev pub closes : {R : Type 0} → Asked R → Bool
closes a = is_close a.call && not (is_err a.answer)

-- the number of the step in a world
abbrev pub step_in : {R : Type 0} → World R → ℕ
step_in w = step_number w.state.phase w.state.round

module _ {R : Type 0} where
  same_asked : (k l : Call R) (a b : Result (Told R) Refusal) → ◌≡◌ {A = Option (Asked R)} (Some (record { call = k; answer = a })) (Some (record { call = l; answer = b })) → (k ≡ l) × (a ≡ b)
  same_asked k l a b e = grind arith

  nothing_asked : (a : Asked R) → ◌≡◌ {A = Option (Asked R)} None (Some a) → ⊥
  nothing_asked a e = cc

  asked_out : (k l : Call R) (a b : Result (Told R) Refusal) (P : Call R → Result (Told R) Refusal) → a ≡ P k →
      ◌≡◌ {A = Option (Asked R)} (Some (record { call = k; answer = a })) (Some (record { call = l; answer = b })) → b ≡ P l
  asked_out k l a b P h e = let s = same_asked k l a b e in sym s.1 ∙ h ∙ ap P s.0

  module _ (meaning : R → ℕ) where
    -- what an outcome is asked is asked of the world that ended
    outcome_place : (w : World R) (qs : List Ask) (p : ℕ) (k : Call R) (a : Result (Told R) Refusal) →
        slice_get (outcome_history w.state.table w.values qs) p ≡ Some (record { call = k; answer = a }) → (fits : Bool) × (a ≡ answered_by w fits k)
    unfolding outcome_history answered_by
    outcome_place w [] p k a e = absurd (nothing_asked (record { call = k; answer = a }) e)
    outcome_place w (q ∷ qs) zero k a e =
        (q.fits, asked_out (call.Decision q.node q.item) k (outcome_answer w.state.table w.values q) a (answered_by w q.fits) refl e)
    outcome_place w (q ∷ qs) (suc p) k a e = outcome_place w qs p k a e

    -- the answer of the call at place p is that of the world at place p
    pub place : (w : World R) (vs : List (Move R)) (qs : List Ask) (p : ℕ) (k : Call R) (a : Result (Told R) Refusal) →
        slice_get (history meaning w vs ++ outcome_history (run meaning w vs).state.table (run meaning w vs).values qs) p ≡ Some (record { call = k; answer = a }) →
        (fits : Bool) × (a ≡ answered_by (run meaning w (take p vs)) fits k)
    unfolding history run
    place w [] qs p k a e =
        let h = outcome_place w qs p k a e in
        (h.0, h.1 ∙ ap (λ us. answered_by (run meaning w us) h.0 k) (sym (take-nil p)))
    place w (v ∷ vs) qs zero k a e = (v.fits, asked_out v.call k (answered_by w v.fits v.call) a (answered_by w v.fits) refl e)
    place w (v ∷ vs) qs (suc p) k a e = place (after meaning w v) vs qs p k a e

    -- a later world is reached from an earlier one
    pub later : (w : World R) (vs : List (Move R)) (p q : ℕ) → p ≤ q → (us : List (Move R)) × (run meaning w (take q vs) ≡ run meaning (run meaning w (take p vs)) us)
    unfolding run
    later w vs zero q l = (take q vs, refl)
    later w [] (suc p) zero l = absurd (omega arith)
    later w [] (suc p) (suc q) l = ([], refl)
    later w (v ∷ vs) (suc p) zero l = absurd (omega arith)
    later w (v ∷ vs) (suc p) (suc q) l = later (after meaning w v) vs p q (omega arith)

    -- an accepted close raises the step, and nothing else does
    module _ (n m : ℕ) (faulty : ℕ → Bool) where
      accepted_one : (w : World R) (v : Move R) → Timely w.state.phase w.state.round → (o : Option Refusal) (k : Call R) →
          step_in (if_accepted o (effect meaning v.tosses w k) w) ≡ step_in w + cond (closes (record { call = k; answer = answered o (says w k) })) 1 0
      accepted_one w v t o k = grind (arith, step_next)

      step_one : (w : World R) (v : Move R) → Fits n m faulty w →
          step_in (after meaning w v) ≡ step_in w + cond (closes (record { call = v.call; answer = answered_by w v.fits v.call })) 1 0
      unfolding after answered_by
      step_one w v g = accepted_one w v g.timely (refusal w v.fits v.call) v.call

      -- an outcome has no closes
      outcome_closes : (t : Table) (values : List (Option R)) (qs : List Ask) (p : ℕ) → closes_before (outcome_history t values qs) p ≡ 0
      unfolding outcome_history
      outcome_closes t values [] zero = refl
      outcome_closes t values [] (suc p) = refl
      outcome_closes t values (q ∷ qs) zero = refl
      outcome_closes t values (q ∷ qs) (suc p) = outcome_closes t values qs p

      -- the closes accepted before a place are the steps behind it
      pub steps_behind : (w : World R) (vs : List (Move R)) (qs : List Ask) (p : ℕ) → Fits n m faulty w →
          step_in (run meaning w (take p vs)) ≡ step_in w + closes_before (history meaning w vs ++ outcome_history (run meaning w vs).state.table (run meaning w vs).values qs) p
      unfolding history run
      steps_behind w [] qs p g =
          ap (λ us. step_in (run meaning w us)) (take-nil p) ∙ omega (arith, outcome_closes w.state.table w.values qs p)
      steps_behind w (v ∷ vs) qs zero g = omega arith
      steps_behind w (v ∷ vs) qs (suc p) g =
          let h = steps_behind (after meaning w v) vs qs p (fits_after meaning n m faulty w v g) in
          let s = step_one w v g in
          let c = sum_by-cons (λ (a : Asked R). cond (closes a) 1 0) (record { call = v.call; answer = answered_by w v.fits v.call })
          (take p (history meaning (after meaning w v) vs ++ outcome_history (run meaning (after meaning w v) vs).state.table (run meaning (after meaning w v) vs).values qs)) in
          omega arith

  -- an accepted close at an earlier place is counted
  pub close_counts : (h : List (Asked R)) (q p : ℕ) (a : Asked R) → q < p → slice_get h q ≡ Some a → closes a ≡ true → closes_before h q + 1 ≤ closes_before h p
  close_counts [] q p a l e t = absurd (nothing_asked a e)
  close_counts (x ∷ h) q zero a l e t = absurd (omega arith)
  close_counts (x ∷ h) zero (suc p) a l e t =
      let c = sum_by-cons (λ (a : Asked R). cond (closes a) 1 0) x (take p h) in
      let y : x ≡ a = cc in
      let u : ◌≡◌ {A = ℕ} (cond (closes x) 1 0) 1 = ap (λ b. cond (closes b) 1 0) y ∙ ap (λ b. cond b 1 0) t in
      omega arith
  close_counts (x ∷ h) (suc q) (suc p) a l e t =
      let c = sum_by-cons (λ (a : Asked R). cond (closes a) 1 0) x (take p h) in
      let d = sum_by-cons (λ (a : Asked R). cond (closes a) 1 0) x (take q h) in
      let r = close_counts h q p a (omega arith) e t in
      omega arith

  -- what a decision says that was not refused
  pub record Says (w : World R) (i c : ℕ) (a : Result (Told R) Refusal) : Type 0 where
    pub node : i < w.state.table.n
    pub item : c < w.state.table.m
    pub honest : faulty_at w.state.table i ≡ false
    pub says : a ≡ Ok (Decision (decision_of w.state.table w.values i c))

  pub decision_says : (w : World R) (fits : Bool) (i c : ℕ) (a : Result (Told R) Refusal) → a ≡ answered_by w fits (call.Decision i c) → is_err a ≡ false → Says w i c a
  unfolding answered_by
  decision_says w fits i c a e r = go (not fits) (leb w.state.table.n i) (leb w.state.table.m c) (faulty_at w.state.table i) refl refl refl e
    where
      refused : (o : Refusal) → a ≡ Err o → ⊥
      refused o h = true≢false (sym (ap is_err h) ∙ r)

      go : (x y z u : Bool) → leb w.state.table.n i ≡ y → leb w.state.table.m c ≡ z → faulty_at w.state.table i ≡ u →
          a ≡ answered (refuse x Short (refuse y NoNode (refuse z NoItem (refuse u FaultyNode None)))) (Decision (decision_of w.state.table w.values i c)) → Says w i c a
      go true y z u ey ez eu h = absurd (refused Short h)
      go false true z u ey ez eu h = absurd (refused NoNode h)
      go false false true u ey ez eu h = absurd (refused NoItem h)
      go false false false true ey ez eu h = absurd (refused FaultyNode h)
      go false false false false ey ez eu h = record { node = leb-false _ _ ey; item = leb-false _ _ ez; honest = eu; says = h }

  decided_cases : (d : Bool) (x y : Option R) → ◌≡◌ {A = Result (Told R) Refusal} (Ok (Decision (Decided x))) (Ok (Decision (cond d (Decided y) Undecided))) → (d ≡ true) × (x ≡ y)
  decided_cases d x y e = grind arith

  open_cases : (d : Bool) (y : Option R) → ◌≡◌ {A = Result (Told R) Refusal} (Ok (Decision Undecided)) (Ok (Decision (cond d (Decided y) Undecided))) → d ≡ false
  open_cases d y e = grind arith

  pub says_decided : (w : World R) (i c : ℕ) (x : Option R) → Says w i c (Ok (Decision (Decided x))) →
      (decided_at w.state.table i c ≡ true) × (x ≡ cond (bit_at w.state.table i c) None (value_at w.state.table w.values i c))
  says_decided w i c x s = decided_cases (decided_at w.state.table i c) x _ s.says

  pub says_open : (w : World R) (i c : ℕ) → Says w i c (Ok (Decision Undecided)) → decided_at w.state.table i c ≡ false
  says_open w i c s = open_cases (decided_at w.state.table i c) _ s.says

  -- a close that is refused by Over is refused because all is over
  pub over_says : (w : World R) (fits : Bool) → Err Over ≡ answered_by w fits call.Close → is_over w.state ≡ true
  unfolding answered_by
  over_says w fits e = go (not fits) (is_over w.state) refl e
    where
      go : (x y : Bool) → is_over w.state ≡ y → ◌≡◌ {A = Result (Told R) Refusal} (Err Over) (answered (refuse x Short (refuse y Over None)) Done) → is_over w.state ≡ true
      go true y ey h = absurd cc
      go false true ey h = ey
      go false false ey h = absurd cc
