-- Beginning a run of one node.
use Rattle.std.proofs.Common.{◌≡◌, ℕ, zero, suc, ◌+◌, ◌*◌, ◌≤◌, Bool, true, false, cond, not, ◌||◌, eqb, ltb, leb, List, [], ◌∷◌, ◌++◌, map, length, set, replicate, Some, None, Ok, Err, filter, Option, Result, sym, refl, ap, ◌∙◌, subst, inl, inr, add-one, arith}
use lib.ListN.{length-replicate}
use Rattle.std.specs.List.{range_with_len}
use Rattle.std.proofs.lemmas.List.Elements.{filter-append}
use Rattle.std.proofs.lemmas.List.{map-append, append-nil}
use Rattle.std.proofs.lemmas.Bool.{cases_Bool, le-ltb, eq-eqb, ne_eqb}
use Rattle.std.proofs.lemmas.Bool.Decides.{nat_tests}
use Rattle.refusal.specs.declared.Refusal.{Refusal}
use Rattle.refusal.specs.declared.Refusal.TheVariants.{BadSize, Short, Torn, NoNode}
use Rattle.refusal.specs.Refusals.{refuse, answered}
use Rattle.board.specs.Tables.{written}
use Rattle.board.specs.Setups.{make_refusal, if_accepted, blank_values, blank_marks}
use Rattle.agreement.specs.declared.states.Setup.{Setup}
use Rattle.agreement.specs.Setups.{Makes, made, opened}
use Rattle.law.specs.declared.calls.SetupCall.{SetupCall}
use Rattle.law.specs.declared.calls.SetupCall.TheVariants.{MarkFaulty}
use Rattle.law.specs.declared.calls.Told.{Told}
use Rattle.law.specs.Runs.{SetupMove, Prepared, setup_after, setup_run}
use Rattle.play.specs.Moves.{setup_move_of, SetupMade}
use Rattle.play.specs.Played.{bad_sizes}
use Rattle.play.proofs.Pushes.{setup_run_push}
use Rattle.participant.specs.Held.{Held}
use Rattle.participant.specs.Participants.{size_refusal, begin_refusal, setup_move, faulty_moves, cell_moves, first_setup, Opens, Begins}
use Rattle.participant.proofs.Same.{same_held}
use Rattle.participant.proofs.BoardLaws.{few_cells, few_pairs, cells_fit}

module _ {R : Type 0} where
  -- nothing was called yet
  pub none_yet : (p : Prepared R) → p ≡ setup_run p []
  unfolding setup_run
  none_yet p = refl

  -- one more call on the setup, whose values board is long enough
  pub one_more : (p₀ p q : Prepared R) (vs : List (SetupMove R)) (k : SetupCall R) (a : Result (Told R) Refusal) → length p.values ≡ 256 → p ≡ setup_run p₀ vs
      → SetupMade (setup_move_of p.table.n p.table.m p.values k) p q a → q ≡ setup_run p₀ (vs ++ setup_move k ∷ [])
  one_more p₀ p q vs k a l e d =
      d.setup ∙ ap (λ f. setup_after p (record { call = k; fits = f })) (cells_fit p.table p.values l)
      ∙ ap (λ x. setup_after x (setup_move k)) e ∙ sym (setup_run_push p₀ vs (setup_move k))

  -- calls after calls
  setup_run_append : (p : Prepared R) (vs ws : List (SetupMove R)) → setup_run p (vs ++ ws) ≡ setup_run (setup_run p vs) ws
  unfolding setup_run
  setup_run_append p [] ws = refl
  setup_run_append p (v ∷ vs) ws = setup_run_append (setup_after p v) vs ws

-- one more number
counting_suc : (a n j : ℕ) → a + n ≡ j → range_with_len a (suc n) ≡ range_with_len a n ++ j ∷ []
counting_suc a zero j e = let z : a ≡ j = omega arith in ap (λ x. x ∷ []) z
counting_suc a (suc n) j e = ap (λ xs. a ∷ xs) (counting_suc (a + 1) n j (omega arith))

-- one more node
kept_more : (n i : ℕ) → filter (λ j. not (eqb j i)) (range_with_len 0 (n + 1)) ≡ filter (λ j. not (eqb j i)) (range_with_len 0 n) ++ cond (not (eqb n i)) (n ∷ []) []
kept_more n i = ap (λ k. filter (λ j. not (eqb j i)) (range_with_len 0 k)) (add-one n) ∙ ap (filter (λ j. not (eqb j i))) (counting_suc 0 n n (omega arith)) ∙ filter-append (λ j. not (eqb j i)) (range_with_len 0 n) (n ∷ [])

module _ {R : Type 0} (n i : ℕ) where
  pub same_node : n ≡ i → faulty_moves {R = R} (n + 1) i ≡ faulty_moves n i
  same_node e = ap (map (λ j. setup_move (MarkFaulty j))) (kept_more n i ∙ rw (eq-eqb n i e, append-nil))

  pub other_node : (n ≡ i → ⊥) → faulty_moves {R = R} (n + 1) i ≡ faulty_moves n i ++ setup_move (MarkFaulty n) ∷ []
  other_node e =
      ap (map (λ j. setup_move (MarkFaulty j))) (kept_more n i ∙ ap (λ b. filter (λ j. not (eqb j i)) (range_with_len 0 n) ++ cond (not b) (n ∷ []) []) (ne_eqb n i e))
      ∙ map-append (λ j. setup_move (MarkFaulty j)) (filter (λ j. not (eqb j i)) (range_with_len 0 n)) (n ∷ [])

-- writing an element over a list of it alters nothing
set_alike : {X : Type 0} (n i : ℕ) (x : X) → set (replicate n x) i x ≡ replicate n x
set_alike zero i x = refl
set_alike (suc n) zero x = refl
set_alike (suc n) (suc i) x = ap (λ xs. x ∷ xs) (set_alike n i x)

written_alike : {X : Type 0} (k n : ℕ) (x : X) → written k (λ _. x) (replicate n x) ≡ replicate n x
written_alike zero n x = refl
written_alike (suc k) n x = ap (λ xs. set xs k x) (written_alike k n x) ∙ set_alike n k x

-- boards of 256 and 4096 places are never short
right_sizes : (n m : ℕ) → bad_sizes n m ≡ false → (n ≤ 16) × (m ≤ 16)
right_sizes n m e = (grind (arith, nat_tests), grind (arith, nat_tests))

never_short : (n m : ℕ) → bad_sizes n m ≡ false → (ltb 256 (n * m) || ltb 4096 (n * n * m)) ≡ false
never_short n m e =
    let s = right_sizes n m e in
    let a = le-ltb 256 (n * m) (few_cells n m s.0 s.1) in
    let b = le-ltb 4096 (n * n * m) (few_pairs n m s.0 s.1) in
    rw (a, b)

only_sizes : (n m : ℕ) → make_refusal n m 256 4096 ≡ size_refusal n m
only_sizes n m =
    elim (cases_Bool (bad_sizes n m)) [
      | inl e ↦ ap (λ b. refuse b BadSize (refuse (ltb 256 (n * m) || ltb 4096 (n * n * m)) Short None)) e ∙ sym (ap (λ b. refuse b BadSize None) e)
      | inr e ↦ ap (λ b. refuse (bad_sizes n m) BadSize (refuse b Short None)) (never_short n m e)
    ]

module _ {R : Type 0} (n m i : ℕ) (cells vs : List (Option R)) (ms : List ℕ) (ev : vs ≡ replicate 256 None) (em : ms ≡ replicate 4096 0) where
  -- the checks of a setup over blank boards
  blank_refusal : make_refusal n m (length vs) (length ms) ≡ size_refusal n m
  blank_refusal =
      ap (λ (k : ℕ). make_refusal n m k (length ms)) (ap length ev ∙ length-replicate {A = Option R} 256 None)
      ∙ ap (λ (k : ℕ). make_refusal n m 256 k) (ap length em ∙ length-replicate {A = ℕ} 4096 0)
      ∙ only_sizes n m

  -- the instance that a new setup is opened into, once its calls are made
  opened_by : (o : Option Refusal) (s s₁ s₂ : Setup) (vs₀ vs₁ vs₂ : List (Option R)) (ms' : List ℕ) → Makes n m o (Ok s)
      → vs₀ ≡ if_accepted o (blank_values n m vs) vs → ms' ≡ if_accepted o (blank_marks n m ms) ms
      → ◌≡◌ {A = Prepared R} (record { table = s₁.table; values = vs₁ }) (setup_run (record { table = s.table; values = vs₀ }) (faulty_moves n i))
      → ◌≡◌ {A = Prepared R} (record { table = s₂.table; values = vs₂ }) (setup_run (record { table = s₁.table; values = vs₁ }) (cell_moves i cells))
      → Opens n m i cells o vs₂ ms' (Ok (opened s₂))
  opened_by None s s₁ s₂ vs₀ vs₁ vs₂ ms' h values marks a b =
      let z = h.0 in
      let es : s ≡ made n m z = cc in
      let e0 : ◌≡◌ {A = Prepared R} (record { table = s.table; values = vs₀ }) (record { table = (made n m z).table; values = replicate 256 None }) =
      ap (λ x. record { table = x.table; values = vs₀ }) es
      ∙ ap (λ x. record { table = (made n m z).table; values = x }) (values ∙ ap (λ xs. blank_values n m xs) ev ∙ written_alike (n * m) 256 None) in
      let e : ◌≡◌ {A = Prepared R} (record { table = s₂.table; values = vs₂ }) (first_setup n m z i cells) =
      b ∙ ap (λ p. setup_run p (cell_moves i cells)) (a ∙ ap (λ p. setup_run p (faulty_moves n i)) e0)
      ∙ sym (setup_run_append (record { table = (made n m z).table; values = replicate 256 None }) (faulty_moves n i) (cell_moves i cells)) in (
        z,
        ap (λ (p : Prepared R). Ok (opened (record { table = p.table }))) e,
        ap (λ (p : Prepared R). p.values) e,
        marks ∙ ap (λ xs. blank_marks n m xs) em ∙ written_alike (n * n * m) 4096 0,
      )
  opened_by (Some e) s s₁ s₂ vs₀ vs₁ vs₂ ms' h values marks a b = absurd (let z : ◌≡◌ {A = ℕ} 0 1 = cc in omega arith)

  pub instance_opened : (s s₁ s₂ : Setup) (vs₀ vs₁ vs₂ : List (Option R)) (ms' : List ℕ) → Makes n m (make_refusal n m (length vs) (length ms)) (Ok s)
      → vs₀ ≡ if_accepted (make_refusal n m (length vs) (length ms)) (blank_values n m vs) vs → ms' ≡ if_accepted (make_refusal n m (length vs) (length ms)) (blank_marks n m ms) ms
      → ◌≡◌ {A = Prepared R} (record { table = s₁.table; values = vs₁ }) (setup_run (record { table = s.table; values = vs₀ }) (faulty_moves n i))
      → ◌≡◌ {A = Prepared R} (record { table = s₂.table; values = vs₂ }) (setup_run (record { table = s₁.table; values = vs₁ }) (cell_moves i cells))
      → Opens n m i cells (size_refusal n m) vs₂ ms' (Ok (opened s₂))
  instance_opened s s₁ s₂ vs₀ vs₁ vs₂ ms' h values marks a b =
      subst (λ o. Opens n m i cells o vs₂ ms' (Ok (opened s₂))) blank_refusal (opened_by (make_refusal n m (length vs) (length ms)) s s₁ s₂ vs₀ vs₁ vs₂ ms' h values marks a b)

  -- the refusal that a new setup gives
  refused_by : (o : Option Refusal) (e : Refusal) (vs' : List (Option R)) (ms' : List ℕ) → Makes n m o (Err e) → Opens n m i cells o vs' ms' (Err e)
  refused_by None e vs' ms' h = absurd (let x = h.1 in let z : ◌≡◌ {A = ℕ} 0 1 = cc in omega arith)
  refused_by (Some x) e vs' ms' h = let d : e ≡ x = cc in ap Err d

  pub instance_refused : (e : Refusal) (vs' : List (Option R)) (ms' : List ℕ) → Makes n m (make_refusal n m (length vs) (length ms)) (Err e) → Opens n m i cells (size_refusal n m) vs' ms' (Err e)
  instance_refused e vs' ms' h = subst (λ o. Opens n m i cells o vs' ms' (Err e)) blank_refusal (refused_by (make_refusal n m (length vs) (length ms)) e vs' ms' h)

-- checks that let a call pass did not hit
pub passed : {X : Type 0} (o : Option Refusal) (y x : X) → Ok y ≡ answered o x → None ≡ o
passed None y x e = refl
passed (Some d) y x e = absurd (let z : ◌≡◌ {A = ℕ} 0 1 = cc in omega arith)

-- the checks of beginning that did not hit
none_hit : (x y z u : Bool) → None ≡ refuse x BadSize (refuse y Short (refuse z Torn (refuse u NoNode None))) → (x ≡ false) × (y ≡ false)
none_hit true y z u e = absurd (let q : ◌≡◌ {A = ℕ} 0 1 = cc in omega arith)
none_hit false true z u e = absurd (let q : ◌≡◌ {A = ℕ} 0 1 = cc in omega arith)
none_hit false false z u e = (refl, refl)

few_entries : (k : ℕ) → (eqb k 0 || ltb 8 k) ≡ false → (1 ≤ k) × (k ≤ 8)
few_entries k e = (grind (arith, nat_tests), grind (arith, nat_tests))

pub strip_long : (n m i entries cells : ℕ) → None ≡ begin_refusal n m i entries cells → (1 ≤ entries) × (entries ≤ 8)
strip_long n m i entries cells e = few_entries entries (none_hit (bad_sizes n m) (eqb entries 0 || ltb 8 entries) (not (eqb cells m)) (leb n i) e).1

module _ {R : Type 0} (n m i : ℕ) (es : List ℕ) (cells vs : List (Option R)) (ms : List ℕ) (h : Held R) where
  -- the participant with an instance that was opened on its boards
  pub participant_begun : None ≡ begin_refusal n m i (length es) (length cells) → Opens n m i cells (size_refusal n m) vs ms (Ok h.world.state)
      → h.node ≡ i → h.world.values ≡ vs → h.world.sent ≡ replicate 4096 None → h.world.marks ≡ ms → h.strip ≡ es
      → Begins n m i es cells (begin_refusal n m i (length es) (length cells)) (Ok h)
  participant_begun e o ei ev et em ee =
      let right : size_refusal n m ≡ None =
      ap (λ b. refuse b BadSize None) (none_hit (bad_sizes n m) (eqb (length es) 0 || ltb 8 (length es)) (not (eqb (length cells) m)) (leb n i) e).0 in
      let x = subst (λ q. Opens n m i cells q vs ms (Ok h.world.state)) right o in
      let p = first_setup n m x.0 i cells in
      let same : h.world.state ≡ opened (record { table = p.table }) = let q = x.1 in cc in
      subst (λ q. Begins n m i es cells q (Ok h)) e (
        x.0,
        ap (λ k. Ok (record { node = k; world = h.world; strip = h.strip })) ei
            ∙ ap Ok (same_held i h.world.state (opened (record { table = p.table })) h.world.values p.values h.world.sent (replicate 4096 None)
            h.world.marks (replicate 4096 0) h.strip es same (ev ∙ x.2) et (em ∙ x.3) ee),
      )
