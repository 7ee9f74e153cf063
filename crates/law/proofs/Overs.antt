-- When an instance is over.
use Rattle.std.proofs.Common.{◌≡◌, ℕ, ◌+◌, ◌*◌, ◌/◌, ◌%◌, ◌<◌, ◌≤◌, true, false, not, ◌||◌, ltb, sym, ap, ◌∙◌, subst, ap₂, inl, inr, arith}
use lib.Arith.{digits_lt, digits_div, digits_mod}
use Rattle.std.proofs.Math.Bool.{or-false}
use Rattle.std.proofs.lemmas.Bool.{cases_Bool, and_from, ltb-true, ne_eqb}
use Rattle.closing.specs.declared.types.Phase.{Phase}
use Rattle.board.specs.declared.states.Table.{Table}
use Rattle.board.specs.Tables.{faulty_at, decided_at, undecided_at, undecided_count}
use Rattle.agreement.specs.declared.states.Instance.{Instance}
use Rattle.agreement.specs.Calls.{is_over}
use Rattle.law.proofs.Tallies.{tally_pos, counted_nodes}
use Rattle.law.proofs.Items.{Timely, step_number}

-- an item that is undecided at an honest node is counted
pub open_counts : (t : Table) (i c : ℕ) → i < t.n → c < t.m → faulty_at t i ≡ false → decided_at t i c ≡ false → 0 < undecided_count t
open_counts t i c li lc s d =
    subst (λ k. 0 < k) (sym (counted_nodes (λ k. undecided_at t (k / t.m) (k % t.m)) (t.n * t.m)))
    (tally_pos (t.n * t.m) (λ k. undecided_at t (k / t.m) (k % t.m)) (i * t.m + c) (digits_lt li lc)
    (ap₂ (undecided_at t) (digits_div i lc) (digits_mod i lc) ∙ and_from (not (faulty_at t i)) (not (decided_at t i c)) (ap not s) (ap not d)))

-- as long as an item is undecided at an honest node, only the last round's end is the end
pub open_over : (s : Instance) (i c : ℕ) → i < s.table.n → c < s.table.m → faulty_at s.table i ≡ false → decided_at s.table i c ≡ false → is_over s ≡ ltb 100 s.round
open_over s i c li lc h d =
    ap (λ b. ltb 100 s.round || b) (ne_eqb (undecided_count s.table) 0 (λ e. absurd (omega (arith, open_counts s.table i c li lc h d))))
    ∙ or-false (ltb 100 s.round)

pub early_round : (p : Phase) (k : ℕ) → Timely p k → step_number p k ≤ 302 → k ≤ 100
early_round p k t h = grind arith

-- where an instance is over before its last step, honest nodes have decided
pub over_decided : (s : Instance) → is_over s ≡ true → Timely s.phase s.round → step_number s.phase s.round ≤ 302 →
    (i c : ℕ) → i < s.table.n → c < s.table.m → faulty_at s.table i ≡ false → decided_at s.table i c ≡ true
over_decided s o t h i c li lc f =
    elim (cases_Bool (decided_at s.table i c)) [
      | inl d ↦ d
      | inr d ↦ absurd (omega (arith, ltb-true 100 s.round (sym (open_over s i c li lc f d) ∙ o), early_round s.phase s.round t h))
    ]
