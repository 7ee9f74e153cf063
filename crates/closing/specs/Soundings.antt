-- Worked cases of the meanings and of the closings, over the definitions that the contracts cite.
use Rattle.std.specs.Prelude.{◌≡◌, ℕ, ◌+◌, ◌*◌, ◌≤◌, Bool, true, false, List, [], ◌∷◌, Some, None, Ok, Option, Result, nat_eq}
use Rattle.std.proofs.Common.{lit≤}
use Rattle.refusal.specs.declared.Refusal.{Refusal}
use Rattle.reading.specs.declared.bearing.Bearing.{Bearing}
use Rattle.reading.specs.declared.lamp.Lamp.TheVariants.{Flashing, Standby}
use Rattle.reading.specs.declared.period.Period.{Period}
use Rattle.reading.specs.Bearings.{bearing_meaning}
use Rattle.reading.specs.Lamps.{lamp_meaning}
use Rattle.closing.specs.declared.types.Closed.{Closed}
use Rattle.closing.specs.declared.types.Closed.TheVariants.{Polled, Graded, Voted}
use Rattle.closing.specs.Counting.{quorum_of, weak_quorum_of}
use Rattle.closing.specs.Closings.{item_answer}

-- a bearing of so many hundredths of a degree
abbrev pub bearing : ℕ → Bearing
bearing h = record { hundredths = h }

-- a cell with that bearing
abbrev pub at : ℕ → Option Bearing
at h = Some (bearing h)

-- 35 tenths of a second
abbrev pub thirty_five : Period
thirty_five = record { tenths = 35; ok = (lit≤ tt, lit≤ tt) }

-- node 0 of 4 closes item 0 in this step, undecided at bit 0, under a coin
abbrev pub four_close : (ℕ → ℕ → ℕ → Bool) → ℕ → List (Option Bearing) → List ℕ → Result (Closed Bearing) Refusal
four_close tosses step cells marks =
    item_answer bearing_meaning tosses (record { n = 4; node = 0; step = step; item = 0; bit = 0; decided = false }) cells marks

-- two zeros and two ones, as marks
abbrev pub two_and_two : List ℕ
two_and_two = 2 ∷ 2 ∷ 3 ∷ 3 ∷ []

-- The worked cases.
pub record Soundings : Type 0 where
  pub quorums : (quorum_of 4 ≡ 3) × (quorum_of 5 ≡ 4) × (quorum_of 16 ≡ 11)
  pub weak_quorums : (weak_quorum_of 4 ≡ 2) × (weak_quorum_of 5 ≡ 2) × (weak_quorum_of 16 ≡ 6)
  pub whole_turn : nat_eq (bearing_meaning (bearing 36000)) (bearing_meaning (bearing 0)) ≡ true
  pub one_less : nat_eq (bearing_meaning (bearing 35999)) (bearing_meaning (bearing 0)) ≡ false
  pub standby : nat_eq (lamp_meaning (Flashing thirty_five)) (lamp_meaning (Standby thirty_five)) ≡ false
  pub poll : (f : ℕ → ℕ → ℕ → Bool) → four_close f 1 (at 1000 ∷ at 1000 ∷ at 37000 ∷ at 500 ∷ []) [] ≡ Ok (Polled (at 1000))
  pub poll_none : (f : ℕ → ℕ → ℕ → Bool) → four_close f 1 (at 1000 ∷ at 1000 ∷ at 500 ∷ None ∷ []) [] ≡ Ok (Polled None)
  pub echo_three : (f : ℕ → ℕ → ℕ → Bool) → four_close f 2 (at 1000 ∷ at 1000 ∷ at 1000 ∷ None ∷ []) [] ≡ Ok (Graded (at 1000) 2 false)
  pub echo_two : (f : ℕ → ℕ → ℕ → Bool) → four_close f 2 (at 1000 ∷ at 1000 ∷ None ∷ None ∷ []) [] ≡ Ok (Graded (at 1000) 1 true)
  pub echo_one : (f : ℕ → ℕ → ℕ → Bool) → four_close f 2 (at 1000 ∷ None ∷ None ∷ None ∷ []) [] ≡ Ok (Graded None 0 true)
  pub to_zero : (f : ℕ → ℕ → ℕ → Bool) (k : ℕ) → 1 ≤ k → k ≤ 100 → four_close f (3 * k) [] two_and_two ≡ Ok (Voted false false)
  pub to_one : (f : ℕ → ℕ → ℕ → Bool) (k : ℕ) → 1 ≤ k → k ≤ 100 → four_close f (3 * k + 1) [] two_and_two ≡ Ok (Voted true false)
