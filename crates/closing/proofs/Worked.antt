-- The worked cases, computed.
use Rattle.std.proofs.Common.{◌≡◌, ℕ, ◌+◌, ◌*◌, ◌%◌, ◌≤◌, Bool, true, false, eqb, ltb, [], Some, Ok, refl, arith}
use Rattle.std.proofs.lemmas.Bool.{le-ltb, ne_eqb}
use Rattle.closing.specs.declared.types.Phase.TheVariants.{ToZero, ToOne}
use Rattle.closing.specs.declared.types.Closed.TheVariants.{Voted}
use Rattle.closing.specs.Closings.{phase_of, round_phase}
use Rattle.closing.specs.Soundings.{Soundings, four_close, two_and_two}

-- the phase of a step from 3 to 302
later_phase : (step r : ℕ) → 3 ≤ step → step ≤ 302 → step % 3 ≡ r → phase_of step ≡ Some (round_phase r)
later_phase step r l h e =
    let a : eqb step 0 ≡ false = ne_eqb step 0 (λ z. omega arith) in
    let b : ltb 302 step ≡ false = le-ltb 302 step (omega arith) in
    let c : eqb step 1 ≡ false = ne_eqb step 1 (λ z. omega arith) in
    let d : eqb step 2 ≡ false = ne_eqb step 2 (λ z. omega arith) in
    rw (a, b, c, d, e)

module _ (f : ℕ → ℕ → ℕ → Bool) (k : ℕ) (l : 1 ≤ k) (h : k ≤ 100) where
  at_zero : four_close f (3 * k) [] two_and_two ≡ Ok (Voted false false)
  at_zero = let e : phase_of (3 * k) ≡ Some ToZero = later_phase (3 * k) 0 (omega arith) (omega arith) (omega arith) in rw e

  at_one : four_close f (3 * k + 1) [] two_and_two ≡ Ok (Voted true false)
  at_one = let e : phase_of (3 * k + 1) ≡ Some ToOne = later_phase (3 * k + 1) 1 (omega arith) (omega arith) (omega arith) in rw e

pub soundings : Soundings
soundings = record {
  quorums = (refl, refl, refl);
  weak_quorums = (refl, refl, refl);
  whole_turn = refl;
  one_less = refl;
  standby = refl;
  poll = λ f. refl;
  poll_none = λ f. refl;
  echo_three = λ f. refl;
  echo_two = λ f. refl;
  echo_one = λ f. refl;
  to_zero = at_zero;
  to_one = at_one;
}
