-- Closings of octets that pass the checks of form, and what a closing looks at.
use Rattle.std.proofs.Common.{◌≡◌, ℕ, ◌+◌, ◌*◌, ◌/◌, ◌%◌, ◌≤◌, min, Bool, true, ◌||◌, eqb, ltb, leb, List, length, take, is_some, Some, None, Ok, Err, Option, Result, OnOk, sym, refl, ap, ◌∙◌, inl, inr, arith}
use Rattle.std.specs.Result.{result_map_both}
use Rattle.std.proofs.lemmas.Nat.{div-add-mod'}
use Rattle.std.proofs.lemmas.List.{length-take, take-take}
use Rattle.std.proofs.lemmas.Bool.{cases_Bool, cases_lt, lt-ltb, le-ltb, ltb-false, eq-eqb, ne_eqb, or_parts}
use Rattle.refusal.specs.declared.Refusal.{Refusal}
use Rattle.refusal.specs.declared.Refusal.TheVariants.{BadSize, Short, NoNode, NoItem, WrongPhase, StrangeReading}
use Rattle.refusal.specs.declared.Fault.{Fault}
use Rattle.refusal.specs.Refusals.{refuse, unless}
use Rattle.coin.specs.Tosses.{strip_refusal}
use Rattle.closing.specs.declared.types.Phase.{Phase}
use Rattle.closing.specs.declared.types.ItemClose.{ItemClose}
use Rattle.closing.specs.Closings.{phase_of, sends_cells, heard_count, item_refusal, item_closed, item_answer}
use Rattle.wire.specs.Items.{cells_fault}
use Rattle.wire.specs.Messages.{cells_in}
use Rattle.wire.specs.Reads.{unless_fault}
use Rattle.controller.specs.declared.types.CloseRequest.{CloseRequest}
use Rattle.controller.specs.Closes.{asked, given_answer}
use Rattle.controller.specs.Strips.{tosses_in}

-- whole rows
pub whole_rows : (n s w : ℕ) → s ≡ w + 1 → n % s ≡ 0 → n ≡ n / s * (w + 1)
whole_rows n s w e z = let d : n ≡ n / s * s = omega (arith, div-add-mod' n s) in d ∙ ap (λ k. n / s * k) e

-- the first 16 cells are too few for n nodes only where all are
sixteen_count : (l n : ℕ) → n ≤ 16 → ltb (min 16 l) n ≡ ltb l n
sixteen_count l n h =
    elim (cases_lt l n) [
      | inl k ↦ lt-ltb (min 16 l) n (omega arith) ∙ sym (lt-ltb l n k)
      | inr k ↦ le-ltb (min 16 l) n (omega arith) ∙ sym (le-ltb l n k)
    ]

module _ {R : Type 0} (meaning : R → ℕ) (tosses : ℕ → ℕ → ℕ → Bool) (a : ItemClose) (xs : List (Option R)) (marks : List ℕ) where
  sixteen_heard : (p : Option Phase) → a.n ≤ 16
      → ltb (heard_count p a.n (length (take 16 xs)) (length marks)) a.n ≡ ltb (heard_count p a.n (length xs) (length marks)) a.n
  sixteen_heard None h = refl
  sixteen_heard (Some p) h =
      elim (cases_Bool (sends_cells p)) [
        | inl e ↦ simp (e, length-take) (sixteen_count (length xs) a.n h)
        | inr e ↦ simp e
      ]

  sixteen_closed : (p : Option Phase) → a.n ≤ 16 → item_closed meaning tosses a (take 16 xs) marks p ≡ item_closed meaning tosses a xs marks p
  sixteen_closed None h = refl
  sixteen_closed (Some p) h = rw (take-take a.n 16 xs h)

  -- a closing looks at 16 cells at most
  pub sixteen_suffice : item_answer meaning tosses a (take 16 xs) marks ≡ item_answer meaning tosses a xs marks
  sixteen_suffice =
      let p = phase_of a.step in
      elim (cases_Bool (eqb a.n 0 || ltb 16 a.n)) [
        | inl e ↦ simp e
        | inr e ↦
            let h : a.n ≤ 16 = ltb-false 16 a.n (or_parts (eqb a.n 0) (ltb 16 a.n) e).1 in
            let later = refuse (leb a.n a.node) NoNode (refuse (ltb 15 a.item) NoItem (refuse (ltb 1 a.bit) WrongPhase None)) in
            ap (λ b. unless (refuse (eqb a.n 0 || ltb 16 a.n) BadSize (refuse b Short later)) (item_closed meaning tosses a (take 16 xs) marks p))
            (sixteen_heard p h)
            ∙ ap (unless (item_refusal a (length xs) (length marks))) (sixteen_closed p h)
      ]

-- octets that pass the checks of form but the strip's
pub well_formed : {R : Type 0} (w : ℕ) (meaning : R → ℕ) (reads : List ℕ → Option R) (a : CloseRequest) (strip cells marks : List ℕ)
    → (length strip % 2 ≡ 1 → ⊥) → length cells % (w + 1) ≡ 0 → a.decided ≤ 1 → cells_fault w reads cells 0 (length cells / (w + 1)) ≡ None
    → given_answer w meaning reads a strip cells marks
    ≡ unless (strip_refusal (length strip / 2)) (item_answer meaning (tosses_in strip) (asked a) (cells_in w reads cells (length cells / (w + 1))) marks)
well_formed w meaning reads a strip cells marks even whole flag none =
    let e₁ = ne_eqb (length strip % 2) 1 even in
    let e₂ = eq-eqb (length cells % (w + 1)) 0 whole in
    let e₃ = le-ltb 1 a.decided flag in
    simp (e₁, e₂, e₃, none)

-- cells that do not pass
pub strange_cells : {R : Type 0} (w : ℕ) (meaning : R → ℕ) (reads : List ℕ → Option R) (a : CloseRequest) (strip cells marks : List ℕ)
    → (length strip % 2 ≡ 1 → ⊥) → length cells % (w + 1) ≡ 0 → a.decided ≤ 1
    → is_some (cells_fault w reads cells 0 (length cells / (w + 1))) ≡ true → Err StrangeReading ≡ given_answer w meaning reads a strip cells marks
strange_cells w meaning reads a strip cells marks even whole flag some =
    let e₁ = ne_eqb (length strip % 2) 1 even in
    let e₂ = eq-eqb (length cells % (w + 1)) 0 whole in
    let e₃ = le-ltb 1 a.decided flag in
    simp (e₁, e₂, e₃, some)

-- no fault was found
pub strange_ok : (o : Option Fault) (x y : Unit {0}) → Ok x ≡ result_map_both (λ z. z) (λ _. StrangeReading) (unless_fault o y) → o ≡ None
strange_ok None x y e = refl
strange_ok (Some f) x y e = absurd (let z : ◌≡◌ {A = ℕ} 0 1 = cc in omega arith)

-- a fault was found
pub strange_err : (o : Option Fault) (x : Unit {0}) (d : Refusal) → Err d ≡ result_map_both (λ z. z) (λ _. StrangeReading) (unless_fault o x)
    → (d ≡ StrangeReading) × (is_some o ≡ true)
strange_err None x d e = absurd (let z : ◌≡◌ {A = ℕ} 0 1 = cc in omega arith)
strange_err (Some f) x d e = (cc, refl)

-- what holds of an answer that is no fault
pub when_ok : {T E P : Type 0} (r : Result T E) (x : T) → r ≡ Ok x → OnOk r P → P
when_ok (Ok y) x e p = p
when_ok (Err f) x e p = absurd (let z : ◌≡◌ {A = ℕ} 0 1 = cc in omega arith)
