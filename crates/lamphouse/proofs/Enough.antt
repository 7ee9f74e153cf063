-- Calls that take memory, where they refuse.
use Rattle.std.proofs.Common.{◌≡◌, Ok, Err, Result, sym, subst}
use Rattle.std.specs.Result.{IsErrAnd}
use Rattle.refusal.specs.declared.Refusal.{Refusal}
use Rattle.refusal.specs.declared.Failure.{Failure}
use Rattle.refusal.specs.declared.Failure.TheVariants.{Refused, OutOfMemory}
use Rattle.refusal.specs.Failures.{IfEnough}

-- what is said of a refusal is said of the call that gives it
pub enough_refused : {X : Type 0} (r : Result X Failure) (e : Refusal) (P : Result X Refusal → Type 0) → IsErrAnd r (λ y. y ≡ Refused e) → P (Err e) → IfEnough r P
enough_refused (Ok x) e P h p = absurd h
enough_refused (Err y) e P h p = subst (λ z. IfEnough (Err z) P) (sym h) p

-- what is said of a call that is passed on
pub enough_passed : {X Y : Type 0} (r : Result Y Failure) (y : Failure) (P : Result X Refusal → Type 0) (Q : Result Y Refusal → Type 0)
    → IsErrAnd r (λ z. z ≡ y) → IfEnough (Err y) P → ((e : Refusal) → P (Err e) → Q (Err e)) → IfEnough r Q
enough_passed (Ok x) y P Q h p f = absurd h
enough_passed (Err z) (Refused e) P Q h p f = subst (λ w. IfEnough (Err w) Q) (sym h) (f e p)
enough_passed (Err z) OutOfMemory P Q h p f = subst (λ w. IfEnough (Err w) Q) (sym h) tt
