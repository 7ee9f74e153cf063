-- What a caller is told by the answer of a call on a message.
use Rattle.std.proofs.Common.{◌≡◌, ℕ, Ok, Err, Result, refl, ap, arith}
use Rattle.std.specs.Result.{result_map_both}
use Rattle.refusal.specs.declared.Fault.{Fault}
use Rattle.refusal.specs.Refusals.{number}
use Rattle.controller.specs.declared.types.MessageFault.{MessageFault}
use Rattle.controller.specs.Answers.{fault_number, told_fault, after, fault_after}

module _ {X Y : Type 0} (g : X → Y) where
  -- of one that is carried out
  pub told_ok : (r : Result X Fault) (said before : Y) (fault : MessageFault) → Ok said ≡ result_map_both g (λ f. f) r
      → (0 ≡ fault_number r) × (said ≡ after r (λ x _. g x) before) × (fault ≡ fault_after r fault)
  told_ok (Ok x) said before fault e = (refl, cc, refl)
  told_ok (Err f) said before fault e = absurd (let z : ◌≡◌ {A = ℕ} 0 1 = cc in omega arith)

  -- of one that is refused
  pub told_err : (r : Result X Fault) (f : Fault) (before : Y) (fault : MessageFault) → Err f ≡ result_map_both g (λ f. f) r
      → (number f.refusal ≡ fault_number r) × (before ≡ after r (λ x _. g x) before) × (told_fault f ≡ fault_after r fault)
  told_err (Ok x) f before fault e = absurd (let z : ◌≡◌ {A = ℕ} 0 1 = cc in omega arith)
  told_err (Err d) f before fault e = let q : f ≡ d = cc in (ap (λ (x : Fault). number x.refusal) q, refl, ap told_fault q)
