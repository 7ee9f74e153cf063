-- The boards of a new desk: they suffice for all sizes, and blanking them alters nothing.
use Rattle.std.proofs.Common.{◌≡◌, ℕ, zero, suc, ◌*◌, ◌≤◌, false, ◌||◌, ltb, List, [], ◌∷◌, length, set, replicate, Some, None, Ok, Err, Option, sym, refl, ap, ◌∙◌, subst, inl, inr, mul-le-mul, arith}
use lib.ListN.{length-replicate}
use Rattle.std.proofs.lemmas.Bool.{cases_Bool, le-ltb}
use Rattle.std.proofs.lemmas.Bool.Decides.{nat_tests}
use Rattle.refusal.specs.declared.Refusal.{Refusal}
use Rattle.refusal.specs.declared.Refusal.TheVariants.{BadSize, Short}
use Rattle.refusal.specs.Refusals.{refuse}
use Rattle.board.specs.Tables.{written}
use Rattle.board.specs.Setups.{make_refusal, if_accepted, blank_values, blank_marks}
use Rattle.agreement.specs.declared.states.Setup.{Setup}
use Rattle.agreement.specs.Setups as agreement
use Rattle.play.specs.Played.{bad_sizes}
use Rattle.desk.proofs.Same.{same_held}
use Rattle.desk.specs.declared.stage.Stage.TheVariants.{Making}
use Rattle.desk.specs.Views.{Held}
use Rattle.desk.specs.Desks.{size_refusal, Makes}

-- writing an element over a list of it alters nothing
set_alike : {X : Type 0} (n i : ℕ) (x : X) → set (replicate n x) i x ≡ replicate n x
set_alike zero i x = refl
set_alike (suc n) zero x = refl
set_alike (suc n) (suc i) x = ap (λ xs. x ∷ xs) (set_alike n i x)

written_alike : {X : Type 0} (k n : ℕ) (x : X) → written k (λ _. x) (replicate n x) ≡ replicate n x
written_alike zero n x = refl
written_alike (suc k) n x = ap (λ xs. set xs k x) (written_alike k n x) ∙ set_alike n k x

-- the sizes that are not bad
right_sizes : (n m : ℕ) → bad_sizes n m ≡ false → (n ≤ 16) × (m ≤ 16)
right_sizes n m e = (grind (arith, nat_tests), grind (arith, nat_tests))

-- the most cells and pairs that a run needs
pub few_cells : (n m : ℕ) → n ≤ 16 → m ≤ 16 → n * m ≤ 256
few_cells n m a b = mul-le-mul a b

pub few_pairs : (n m : ℕ) → n ≤ 16 → m ≤ 16 → n * n * m ≤ 4096
few_pairs n m a b = mul-le-mul (mul-le-mul a a) b

-- boards of 256 and 4096 places are never short
never_short : (n m : ℕ) → bad_sizes n m ≡ false → (ltb 256 (n * m) || ltb 4096 (n * n * m)) ≡ false
never_short n m e =
    let s = right_sizes n m e in
    let a = le-ltb 256 (n * m) (few_cells n m s.0 s.1) in
    let b = le-ltb 4096 (n * n * m) (few_pairs n m s.0 s.1) in
    rw (a, b)

only_sizes : (n m : ℕ) → make_refusal n m 256 4096 ≡ size_refusal n m
only_sizes n m =
    elim (cases_Bool (bad_sizes n m)) [
      | inl e ↦ ap (λ b. refuse b BadSize (refuse (ltb 256 (n * m) || ltb 4096 (n * n * m)) Short None)) e ∙ sym (ap (λ b. refuse b BadSize None) e)
      | inr e ↦ ap (λ b. refuse (bad_sizes n m) BadSize (refuse b Short None)) (never_short n m e)
    ]

module _ {R : Type 0} (n m : ℕ) (vs : List (Option R)) (ms : List ℕ) (ev : vs ≡ replicate 256 None) (em : ms ≡ replicate 4096 0) where
  -- the checks of a setup over blank boards
  blank_refusal : make_refusal n m (length vs) (length ms) ≡ size_refusal n m
  blank_refusal =
      ap (λ (k : ℕ). make_refusal n m k (length ms)) (ap length ev ∙ length-replicate {A = Option R} 256 None)
      ∙ ap (λ (k : ℕ). make_refusal n m 256 k) (ap length em ∙ length-replicate {A = ℕ} 4096 0)
      ∙ only_sizes n m

  -- a desk with what a new setup leaves
  made_by : (o : Option Refusal) (s : Setup) (d : Held R) → agreement.Makes n m o (Ok s) → d.stage ≡ Some (Making s)
      → d.values ≡ if_accepted o (blank_values n m vs) vs → d.sent ≡ replicate 4096 None
      → d.marks ≡ if_accepted o (blank_marks n m ms) ms → d.strip ≡ 0 ∷ [] → Makes n m o (Ok d)
  made_by None s d h stage values sent marks strip =
      let z = h.0 in
      let es : s ≡ agreement.made n m z = cc in (
        record { some_node = z.0; few_nodes = z.1; some_item = z.2; few_items = z.3 },
        ap Ok (same_held d.stage (Some (Making (agreement.made n m z))) d.values (replicate 256 None) d.sent (replicate 4096 None) d.marks (replicate 4096 0)
            d.strip (0 ∷ []) (stage ∙ ap (λ k. Some (Making k)) es)
            (values ∙ ap (λ xs. blank_values n m xs) ev ∙ written_alike (n * m) 256 None) sent
            (marks ∙ ap (λ xs. blank_marks n m xs) em ∙ written_alike (n * n * m) 4096 0) strip),
      )
  made_by (Some e) s d h stage values sent marks strip = absurd (let z : ◌≡◌ {A = ℕ} 0 1 = cc in omega arith)

  pub new_made : (s : Setup) (d : Held R) → agreement.Makes n m (make_refusal n m (length vs) (length ms)) (Ok s) → d.stage ≡ Some (Making s)
      → d.values ≡ if_accepted (make_refusal n m (length vs) (length ms)) (blank_values n m vs) vs → d.sent ≡ replicate 4096 None
      → d.marks ≡ if_accepted (make_refusal n m (length vs) (length ms)) (blank_marks n m ms) ms → d.strip ≡ 0 ∷ []
      → Makes n m (size_refusal n m) (Ok d)
  new_made s d h stage values sent marks strip =
      subst (λ o. Makes n m o (Ok d)) blank_refusal (made_by (make_refusal n m (length vs) (length ms)) s d h stage values sent marks strip)

  -- the refusal that a new setup gives
  refused_by : (o : Option Refusal) (e : Refusal) → agreement.Makes n m o (Err e) → Makes {R = R} n m o (Err e)
  refused_by None e h = absurd (let x = h.1 in let z : ◌≡◌ {A = ℕ} 0 1 = cc in omega arith)
  refused_by (Some x) e h = let d : e ≡ x = cc in ap Err d

  pub new_refused : (e : Refusal) → agreement.Makes n m (make_refusal n m (length vs) (length ms)) (Err e) → Makes {R = R} n m (size_refusal n m) (Err e)
  new_refused e h = subst (λ o. Makes {R = R} n m o (Err e)) blank_refusal (refused_by (make_refusal n m (length vs) (length ms)) e h)
