-- A row has as many results as there are items, for an honest node of the run.
use Rattle.std.proofs.Common.{◌≡◌, ℕ, ◌+◌, ◌<◌, ◌≤◌, Bool, true, false, not, ltb, leb, ◌⊎◌, List, [], ◌∷◌, ◌++◌, map, length, None, Ok, Err, Option, Result, sym, refl, ap, ◌∙◌, inl, inr, arith}
use Rattle.std.proofs.lemmas.List.FromFn.{map-range_with_len_more}
use Rattle.std.proofs.lemmas.Bool.{cases_Bool, cases_lt, leb-true, leb-false, lt-ltb, ltb-true, and_parts, and_from, not-true, not_from_false, cond-true, cond-false, both_ways}
use Rattle.std.specs.List.{range_with_len}
use Rattle.refusal.specs.declared.Refusal.{Refusal}
use Rattle.refusal.specs.declared.Refusal.TheVariants.{NoNode, NoItem, FaultyNode}
use Rattle.refusal.specs.Refusals.{refuse, answered}
use Rattle.board.specs.declared.states.Table.{Table}
use Rattle.board.specs.declared.states.Decision.{Decision}
use Rattle.board.specs.Tables.{fits, cells_needed, faulty_at}
use Rattle.board.specs.Looks.{decision_refusal, decision_of}
use Rattle.desk.specs.Desks.{has_row, results_of}
use Rattle.desk.proofs.Serving.{cells_fit}

-- The first k items were accepted at node i, and their decisions are ds.
pub record Begun {R : Type 0} (t : Table) (values : List (Option R)) (i k : ℕ) (ds : List (Decision R)) : Type 0 where
  pub list : ds ≡ map (decision_of t values i) (range_with_len 0 k)
  pub accepted : 0 < k → (has_row t i ≡ true) × (k ≤ t.m)

-- what is known of the three tests of a look that was accepted, and of one that was refused
module _ {X : Type 0} where
  none_hit : (a b f : Bool) (d x : X) → Ok d ≡ answered (refuse a NoNode (refuse b NoItem (refuse f FaultyNode None))) x → (a ≡ false) × (b ≡ false) × (f ≡ false) × (d ≡ x)
  none_hit true b f d x e = absurd (let z : ◌≡◌ {A = ℕ} 0 1 = cc in omega arith)
  none_hit false true f d x e = absurd (let z : ◌≡◌ {A = ℕ} 0 1 = cc in omega arith)
  none_hit false false true d x e = absurd (let z : ◌≡◌ {A = ℕ} 0 1 = cc in omega arith)
  none_hit false false false d x e = (refl, refl, refl, cc)

  one_hit : (a b f : Bool) (e : Refusal) (x : X) → Err e ≡ answered (refuse a NoNode (refuse b NoItem (refuse f FaultyNode None))) x → (a ≡ true) ⊎ ((b ≡ true) ⊎ (f ≡ true))
  one_hit true b f e x h = inl refl
  one_hit false true f e x h = inr (inl refl)
  one_hit false false true e x h = inr (inr refl)
  one_hit false false false e x h = absurd (let z : ◌≡◌ {A = ℕ} 0 1 = cc in omega arith)

module _ {R : Type 0} (t : Table) (values : List (Option R)) (l : length values ≡ 256) (i : ℕ) where
  -- what a look answers, on a board that is long enough
  abbrev look_answer : ℕ → Result (Decision R) Refusal
  look_answer c = answered (decision_refusal t (fits (cells_needed t) values) i c) (decision_of t values i c)

  long_look : (c : ℕ) → look_answer c ≡ answered (decision_refusal t true i c) (decision_of t values i c)
  long_look c = ap (λ b. answered (decision_refusal t b i c) (decision_of t values i c)) (cells_fit t values l)

  pub begun_none : (ds : List (Decision R)) → ds ≡ [] → Begun t values i 0 ds
  begun_none ds e = record { list = e; accepted = λ h. absurd (omega arith) }

  pub begun_more : (k : ℕ) (ds ds' : List (Decision R)) (d : Decision R) → Begun t values i k ds → Ok d ≡ look_answer k → ds' ≡ ds ++ d ∷ [] → Begun t values i (k + 1) ds'
  begun_more k ds ds' d h e e' =
      let n = none_hit (leb t.n i) (leb t.m k) (faulty_at t i) d (decision_of t values i k) (e ∙ long_look k) in
      let node = lt-ltb i t.n (leb-false t.n i n.0) in
      let item = leb-false t.m k n.1 in
      record {
        list = e' ∙ ap (λ xs. xs ++ d ∷ []) h.list ∙ ap (λ x. map (decision_of t values i) (range_with_len 0 k) ++ x ∷ []) n.3
            ∙ sym (map-range_with_len_more (decision_of t values i) 0 k k (omega arith));
        accepted = λ _. (and_from (ltb i t.n) (not (faulty_at t i)) node (not_from_false (faulty_at t i) n.2), omega arith);
      }

  -- the decisions of all items are the row of an honest node
  whole_row : (ds : List (Decision R)) (k : ℕ) → Begun t values i k ds → has_row t i ≡ true → k ≡ t.m → ds ≡ results_of t values i
  whole_row ds k h r all =
      h.list ∙ ap (λ j. map (decision_of t values i) (range_with_len 0 j)) all ∙ sym (cond-true (has_row t i) (map (decision_of t values i) (range_with_len 0 t.m)) [] r)

  pub begun_all : (ds : List (Decision R)) (k : ℕ) → 16 ≤ k → Begun t values i k ds → ds ≡ results_of t values i
  begun_all ds k e h = let a = h.accepted (omega arith) in whole_row ds k h a.0 (omega (arith, a.1, t.sizes.3))

  -- the first item that is refused is the first past the last, or else there is no row
  past_last : (k : ℕ) (e : Refusal) → has_row t i ≡ true → Err e ≡ look_answer k → t.m ≤ k
  past_last k e r h =
      let p = and_parts (ltb i t.n) (not (faulty_at t i)) r in
      elim (one_hit (leb t.n i) (leb t.m k) (faulty_at t i) e (decision_of t values i k) (h ∙ long_look k)) [
        | inl a ↦ absurd (let x = leb-true t.n i a in let y = ltb-true i t.n p.0 in omega arith)
        | inr (inl b) ↦ leb-true t.m k b
        | inr (inr f) ↦ absurd (both_ways (faulty_at t i) (not-true (faulty_at t i) p.1) f)
      ]

  pub begun_to : (ds : List (Decision R)) (k : ℕ) (e : Refusal) → Begun t values i k ds → Err e ≡ look_answer k → ds ≡ results_of t values i
  begun_to ds k e h r =
      elim (cases_Bool (has_row t i)) [
        | inl y ↦ (
            let past = past_last k e y r in
            let a = h.accepted (omega (arith, t.sizes.2)) in
            whole_row ds k h y (omega (arith, a.1)))
        | inr x ↦ elim (cases_lt 0 k) [
          | inl p ↦ absurd (both_ways (has_row t i) x (h.accepted p).0)
          | inr z ↦ (
              let first : k ≡ 0 = omega arith in
              h.list ∙ ap (λ j. map (decision_of t values i) (range_with_len 0 j)) first ∙ sym (cond-false (has_row t i) (map (decision_of t values i) (range_with_len 0 t.m)) [] x))
        ]
      ]
