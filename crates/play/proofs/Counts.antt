-- How many items can be undecided, and what a close leaves behind its cells.
use Rattle.std.proofs.Common.{◌≡◌, ℕ, zero, suc, ◌*◌, ◌/◌, ◌%◌, ◌≤◌, ltb, List, drop, Some, None, Err, Option, Result, sym, refl, ap, ◌∙◌, mul-le-mul, add-one, arith, min}
use Rattle.std.proofs.lemmas.List.{drop-drop, drop-set-lt}
use Rattle.std.proofs.lemmas.List.Sums.{count_by-le-length}
use Rattle.std.proofs.lemmas.List.FromFn.{length-range_with_len}
use Rattle.std.specs.List.{range_with_len}
use Rattle.board.specs.declared.states.Table.{Table}
use Rattle.board.specs.Tables.{written, undecided_at, undecided_count}
use Rattle.agreement.specs.Calls.{undecided_refusal}
use Rattle.refusal.specs.declared.Refusal.{Refusal}
use Rattle.refusal.specs.Refusals.{refuse, answered}
use Rattle.refusal.specs.declared.Refusal.TheVariants.{Short}
use Rattle.agreement.specs.declared.states.Instance.{Instance}
use Rattle.board.specs.Tables.{cells_needed}
use Rattle.agreement.specs.Closes.{value_after}
use Rattle.agreement.specs.Done.{CloseDone}
use Rattle.law.specs.declared.calls.Told.{Told}
use Rattle.law.specs.declared.calls.Told.TheVariants.{Count}
use Rattle.law.specs.Runs.{Tosses}

-- no more than 256 items are undecided
pub few_undecided : (t : Table) → undecided_count t ≤ 256
few_undecided t =
    let a = count_by-le-length (λ k. undecided_at t (k / t.m) (k % t.m)) (range_with_len 0 (t.n * t.m)) in
    let b = length-range_with_len 0 (t.n * t.m) in
    let c : t.n * t.m ≤ 16 * 16 = mul-le-mul t.sizes.1 t.sizes.3 in
    omega arith

-- a list of 256 places is as good as any longer one
enough_places : (t : Table) (p : ℕ) → undecided_refusal t (min p 256) ≡ undecided_refusal t p
enough_places t p =
    let u = few_undecided t in
    let x : ltb (min p 256) (undecided_count t) ≡ ltb p (undecided_count t) = grind arith in
    ap (λ z. refuse z Short None) x

-- what a list of 256 places is too short for, every longer one is too
pub count_refused : {R : Type 0} (t : Table) (k p : ℕ) (o : Result ℕ Refusal) (e : Refusal) → k ≡ min p 256 → o ≡ answered (undecided_refusal t k) (undecided_count t) → o ≡ Err e →
    ◌≡◌ {A = Result (Told R) Refusal} (Err e) (answered (undecided_refusal t p) (Count (undecided_count t)))
count_refused {R} t k p o e h a b =
    go (undecided_refusal t p) (sym b ∙ a ∙ ap (λ j. answered (undecided_refusal t j) (undecided_count t)) h ∙ ap (λ z. answered z (undecided_count t)) (enough_places t p))
  where
    go : (z : Option Refusal) → ◌≡◌ {A = Result ℕ Refusal} (Err e) (answered z (undecided_count t)) → ◌≡◌ {A = Result (Told R) Refusal} (Err e) (answered z (Count (undecided_count t)))
    go None q = absurd cc
    go (Some u) q = cc

-- what is written below k leaves what stands from k on
drop_written : {X : Type 0} (k : ℕ) (f : ℕ → X) (xs : List X) → drop k (written k f xs) ≡ drop k xs
drop_written zero f xs = refl
drop_written (suc k) f xs =
    drop-set-lt (suc k) (written k f xs) k (f k) (omega arith)
    ∙ ap (λ j. drop j (written k f xs)) (sym (add-one k))
    ∙ sym (drop-drop 1 k (written k f xs))
    ∙ ap (λ ys. drop 1 ys) (drop_written k f xs)
    ∙ drop-drop 1 k xs
    ∙ ap (λ j. drop j xs) (add-one k)

-- a close leaves what stands on the scratch board behind its cells
pub close_rest : {R : Type 0} (meaning : R → ℕ) (f : Tosses) (s s' : Instance) (values values' scratch scratch' sent : List (Option R)) (marks marks' : List ℕ) (o : Option Refusal) (r : Result (Unit {0}) Refusal) →
    CloseDone meaning f o s s' values values' scratch scratch' sent marks marks' r → drop (cells_needed s.table) scratch' ≡ drop (cells_needed s.table) scratch
close_rest meaning f s s' values values' scratch scratch' sent marks marks' None r d =
    ap (λ x. drop (cells_needed s.table) x) d.to_scratch
    ∙ drop_written (cells_needed s.table) (λ k. value_after meaning f s values sent marks (k / s.table.m) (k % s.table.m)) scratch
close_rest meaning f s s' values values' scratch scratch' sent marks marks' (Some u) r d = ap (λ x. drop (cells_needed s.table) x) d.to_scratch
