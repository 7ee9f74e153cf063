-- One item as the honest nodes stand with it, and what a close makes of it.
use Rattle.std.proofs.Common.{◌≡◌, ℕ, suc, ◌+◌, ◌*◌, ◌<◌, ◌≤◌, Bool, true, false, cond, ◌||◌, List, map, Option, refl, ap, ◌∙◌, arith}
use Rattle.std.proofs.lemmas.Bool.{false≢true}
use Rattle.std.specs.List.{range_with_len}
use Rattle.coin.specs.Tosses.{toss_of}
use Rattle.closing.specs.declared.types.Phase.{Phase}
use Rattle.closing.specs.declared.types.Phase.TheVariants.{Poll, Echo, ToZero, ToOne, Toss}
use Rattle.closing.specs.declared.types.Step.{Step}
use Rattle.closing.specs.declared.types.ItemState.{ItemState}
use Rattle.closing.specs.declared.types.Closed.{Closed}
use Rattle.closing.specs.declared.types.Closed.TheVariants.{Voted}
use Rattle.closing.specs.Counting.{mark_of}
use Rattle.closing.specs.Closings.{closed, closed_in, sends_cells}
use Rattle.hearing.specs.Closes.{new_value, new_bit, new_decided}
use Rattle.agreement.specs.Closes.{next_phase, next_round}
use Rattle.law.specs.Runs.{Tosses}
use Rattle.law.proofs.Leads.{or_else, is_none, leads, grade_held, grade_bit}
use Rattle.law.proofs.Ballots.{Faithful}
use Rattle.law.proofs.Votings.{vote, TrueTo, voted}

-- One item: the step, and by node the value, the bit and whether it is decided.
pub record Item (R : Type 0) : Type 0 where
  pub phase : Phase
  pub round : ℕ
  pub value : ℕ → Option R
  pub bit : ℕ → Bool
  pub decided : ℕ → Bool

-- the number of the step
abbrev pub step_number : Phase → ℕ → ℕ
step_number Poll k = 1
step_number Echo k = 2
step_number ToZero k = 3 * k
step_number ToOne k = 3 * k + 1
step_number Toss k = 3 * k + 2

-- Rounds count from 1, and the first two steps are before round 1's.
pub record Timely (p : Phase) (k : ℕ) : Type 0 where
  pub begun : 1 ≤ k
  pub early : sends_cells p ≡ true → k ≡ 1

pub timely_next : (p : Phase) (k : ℕ) → Timely p k → Timely (next_phase p) (next_round p k)
timely_next Poll k t = record { begun = t.begun; early = λ e. t.early refl }
timely_next Echo k t = record { begun = t.begun; early = λ e. absurd (false≢true e) }
timely_next ToZero k t = record { begun = t.begun; early = λ e. absurd (false≢true e) }
timely_next ToOne k t = record { begun = t.begun; early = λ e. absurd (false≢true e) }
timely_next Toss k t = record { begun = omega arith; early = λ e. absurd (false≢true e) }

-- a close raises the step by 1
pub step_next : (p : Phase) (k : ℕ) → Timely p k → step_number (next_phase p) (next_round p k) ≡ suc (step_number p k)
step_next p k t = grind arith

-- bits are sent in the steps from 3 on
pub late_step : (p : Phase) (k : ℕ) → Timely p k → sends_cells p ≡ false → 3 ≤ step_number p k
late_step p k t e = grind arith

pub step_late : (p : Phase) (k : ℕ) → 3 ≤ step_number p k → sends_cells p ≡ false
step_late p k h = grind arith

-- the phases by the step's number
pub zero_step : (p : Phase) (k r : ℕ) → 1 ≤ r → step_number p k ≡ 3 * r → p ≡ ToZero
zero_step p k r h e = grind arith

pub one_step : (p : Phase) (k r : ℕ) → 1 ≤ r → step_number p k ≡ 3 * r + 1 → p ≡ ToOne
one_step p k r h e = grind arith

pub toss_step : (p : Phase) (k r : ℕ) → 1 ≤ r → step_number p k ≡ 3 * r + 2 → (p ≡ Toss) × (k ≡ r)
toss_step p k r h e = grind arith

module _ (R : Type 0) where
  voted_bit : (d b x y old : Bool) → new_bit {R = R} (cond d (Voted b true) (Voted x y)) old ≡ cond d b x
  voted_bit d b x y old = grind arith

  voted_decided : (d b x y old : Bool) → new_decided {R = R} (cond d (Voted b true) (Voted x y)) old ≡ (d || y)
  voted_decided d b x y old = grind arith

  voted_value : (d b x y : Bool) (old : Option R) → new_value (cond d (Voted b true) (Voted x y)) old ≡ old
  voted_value d b x y old = grind arith

module _ {R : Type 0} (meaning : R → ℕ) (f : Tosses) (p : Step) (s : ItemState) (cells : List (Option R)) (marks : List ℕ) where
  late_value : (h : Phase) → sends_cells h ≡ false → (old : Option R) → new_value (closed_in h meaning f p s cells marks) old ≡ old
  late_value h e old = grind arith

  late_bit : (h : Phase) → sends_cells h ≡ false → (old : Bool) → new_bit (closed_in h meaning f p s cells marks) old
      ≡ cond s.decided s.bit (vote h p.quorum (toss_of f s.node p.round s.item) marks).0
  late_bit h e old = grind arith

  late_decided : (h : Phase) → sends_cells h ≡ false → (old : Bool) → new_decided (closed_in h meaning f p s cells marks) old
      ≡ (s.decided || (vote h p.quorum (toss_of f s.node p.round s.item) marks).1)
  late_decided h e old = grind arith

  early_decided : (h : Phase) → sends_cells h ≡ true → (old : Bool) → new_decided (closed_in h meaning f p s cells marks) old ≡ old
  early_decided h e old = grind arith

module _ {R : Type 0} (meaning : R → ℕ) (n : ℕ) (faulty : ℕ → Bool) (q w c : ℕ) where
  -- what node j makes of what it heard
  abbrev pub makes : Tosses → Item R → (ℕ → ℕ → Option R) → (ℕ → ℕ → ℕ) → ℕ → Closed R
  makes f x cells marks j =
      closed meaning f (record { phase = x.phase; round = x.round; quorum = q; weak_quorum = w })
      (record { node = j; item = c; bit = x.bit j; decided = x.decided j })
      (map (cells j) (range_with_len 0 n)) (map (marks j) (range_with_len 0 n))

  -- The item x is closed into y: node j hears from each honest node what that node has, and from the others anything.
  pub record Closing (f : Tosses) (x y : Item R) : Type 0 where
    pub cells : ℕ → ℕ → Option R
    pub marks : ℕ → ℕ → ℕ
    pub cells_true : (j i : ℕ) → i < n → faulty i ≡ false → cells j i ≡ x.value i
    pub marks_true : (j i : ℕ) → i < n → faulty i ≡ false → marks j i ≡ mark_of (x.bit i)
    pub phase : y.phase ≡ next_phase x.phase
    pub round : y.round ≡ next_round x.phase x.round
    pub value : (j : ℕ) → j < n → faulty j ≡ false → y.value j ≡ new_value (makes f x cells marks j) (x.value j)
    pub bit : (j : ℕ) → j < n → faulty j ≡ false → y.bit j ≡ new_bit (makes f x cells marks j) (x.bit j)
    pub decided : (j : ℕ) → j < n → faulty j ≡ false → y.decided j ≡ new_decided (makes f x cells marks j) (x.decided j)

  module _ (f : Tosses) (x y : Item R) (k : Closing f x y) where
    -- the step that is closed, and how node j stood
    abbrev stepped : Step
    stepped = record { phase = x.phase; round = x.round; quorum = q; weak_quorum = w }

    abbrev stood : ℕ → ItemState
    stood j = record { node = j; item = c; bit = x.bit j; decided = x.decided j }

    abbrev cells_of : ℕ → List (Option R)
    cells_of j = map (k.cells j) (range_with_len 0 n)

    abbrev marks_of : ℕ → List ℕ
    marks_of j = map (k.marks j) (range_with_len 0 n)

    pub hears : (j : ℕ) → Faithful meaning n faulty (k.cells j) x.value
    hears j i l s = k.cells_true j i l s

    pub marks_bits : (j : ℕ) → TrueTo n faulty q (k.marks j) x.bit
    marks_bits j i l s = k.marks_true j i l s

    -- what node j votes
    abbrev pub votes_at : ℕ → Bool × Bool
    votes_at j = voted n faulty q x.phase (k.marks j) (toss_of f j x.round c)

    module _ (j : ℕ) (l : j < n) (s : faulty j ≡ false) where
      pub value_polled : x.phase ≡ Poll → y.value j ≡ leads meaning n q (k.cells j)
      value_polled e = k.value j l s ∙ ap (λ h. new_value (closed_in h meaning f stepped (stood j) (cells_of j) (marks_of j)) (x.value j)) e

      pub value_echoed : x.phase ≡ Echo → y.value j ≡ or_else (leads meaning n q (k.cells j)) (leads meaning n w (k.cells j))
      value_echoed e =
          k.value j l s ∙ ap (λ h. new_value (closed_in h meaning f stepped (stood j) (cells_of j) (marks_of j)) (x.value j)) e
          ∙ grade_held (leads meaning n q (k.cells j)) (leads meaning n w (k.cells j))

      pub value_stays : sends_cells x.phase ≡ false → y.value j ≡ x.value j
      value_stays e = k.value j l s ∙ late_value meaning f stepped (stood j) (cells_of j) (marks_of j) x.phase e (x.value j)

      pub bit_echoed : x.phase ≡ Echo → y.bit j ≡ is_none (leads meaning n q (k.cells j))
      bit_echoed e =
          k.bit j l s ∙ ap (λ h. new_bit (closed_in h meaning f stepped (stood j) (cells_of j) (marks_of j)) (x.bit j)) e
          ∙ grade_bit (leads meaning n q (k.cells j)) (leads meaning n w (k.cells j))

      pub bit_voted : sends_cells x.phase ≡ false → y.bit j ≡ cond (x.decided j) (x.bit j) (votes_at j).0
      bit_voted e = k.bit j l s ∙ late_bit meaning f stepped (stood j) (cells_of j) (marks_of j) x.phase e (x.bit j)

      pub decided_early : sends_cells x.phase ≡ true → y.decided j ≡ x.decided j
      decided_early e = k.decided j l s ∙ early_decided meaning f stepped (stood j) (cells_of j) (marks_of j) x.phase e (x.decided j)

      pub decided_voted : sends_cells x.phase ≡ false → y.decided j ≡ (x.decided j || (votes_at j).1)
      decided_voted e = k.decided j l s ∙ late_decided meaning f stepped (stood j) (cells_of j) (marks_of j) x.phase e (x.decided j)
