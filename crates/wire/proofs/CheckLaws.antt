-- What passed checks tell.
use Rattle.std.proofs.Common.{◌≡◌, ℕ, ◌≤◌, Bool, true, false, cond, eqb, ltb, ◌⊎◌, Some, None, Ok, Err, Option, Result, sym, refl, inl, inr, arith}
use Rattle.std.specs.Option.{ok_or}
use Rattle.std.specs.Result.{result_map_both}
use Rattle.std.proofs.lemmas.Bool.{eqb-false, ltb-false, or_parts}
use Rattle.refusal.specs.declared.Refusal.{Refusal}
use Rattle.refusal.specs.declared.Fault.{Fault}
use Rattle.wire.specs.declared.message.Letter.{Letter}
use Rattle.wire.specs.Faults.{check, bad_size}
use Rattle.wire.specs.Reads.{with_letter, unless_fault}

-- a size that is not out of range
pub size_is : (n : ℕ) → bad_size n ≡ false → (1 ≤ n) × (n ≤ 16)
size_is n e =
    let p = or_parts (eqb n 0) (ltb 16 n) e in
    let z = eqb-false n 0 p.0 in
    (omega arith, ltb-false 16 n p.1)

-- something is not nothing
pub none_some : {A : Type 0} {P : Type 0} (x : A) → ◌≡◌ {A = Option A} (Some x) None → P
none_some x e = absurd (let z : ◌≡◌ {A = ℕ} 0 1 = cc in omega arith)

-- a fault is no answer
pub err_ok : {A E : Type 0} {P : Type 0} (e : E) (x : A) → ◌≡◌ {A = Result A E} (Err e) (Ok x) → P
err_ok e x h = absurd (let z : ◌≡◌ {A = ℕ} 0 1 = cc in omega arith)

-- which way a test went
pub cond_ways : {A : Type 0} (b : Bool) (x y z : A) → cond b x y ≡ z → ((b ≡ true) × (x ≡ z)) ⊎ ((b ≡ false) × (y ≡ z))
cond_ways true x y z e = inl (refl, e)
cond_ways false x y z e = inr (refl, e)

-- a check that passed
pub check_ok : {A : Type 0} (b : Bool) (e : Refusal) (place : ℕ) (later : Result A Fault) (x : A) → check b e place later ≡ Ok x
    → (b ≡ false) × (later ≡ Ok x)
check_ok true e place later x h = absurd (let z : ◌≡◌ {A = ℕ} 0 1 = cc in omega arith)
check_ok false e place later x h = (refl, h)

-- a letter that was found
pub with_letter_ok : {A : Type 0} (o : Option Letter) (later : Letter → Result A Fault) (x : A) → with_letter o later ≡ Ok x
    → (l : Letter) × ((o ≡ Some l) × (later l ≡ Ok x))
with_letter_ok (Some l) later x e = (l, (refl, e))
with_letter_ok None later x e = err_ok _ x e

-- a last check that passed
pub unless_ok : {A : Type 0} (o : Option Fault) (x y : A) → unless_fault o x ≡ Ok y → (o ≡ None) × (x ≡ y)
unless_ok None x y e = (refl, cc)
unless_ok (Some f) x y e = err_ok f y e

-- a last check that failed
pub unless_err : {A B : Type 0} (o : Option Fault) (x : A) (y : B) (f : Fault) → unless_fault o x ≡ Err f → unless_fault o y ≡ Err f
unless_err None x y f e = err_ok f x (sym e)
unless_err (Some g) x y f e = cc

-- a conversion that found something
pub converted : {A E : Type 0} (o : Option A) (e : E) (x : A) → Ok x ≡ ok_or o e → o ≡ Some x
converted (Some a) e x h = cc
converted None e x h = err_ok e x (sym h)

-- what an answer was made from
pub mapped_ok : {A B E : Type 0} (f : A → B) (r : Result A E) (y : B) → result_map_both f (λ (e : E). e) r ≡ Ok y → (x : A) × ((r ≡ Ok x) × (f x ≡ y))
mapped_ok f (Ok x) y e = (x, (refl, cc))
mapped_ok f (Err e) y h = err_ok e y h
