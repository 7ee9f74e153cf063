-- One more call: the run, its answers, and the list that they are written to.
use Rattle.std.proofs.Common.{◌≡◌, ℕ, suc, ◌+◌, ◌*◌, ◌<◌, ◌≤◌, List, [], ◌∷◌, ◌++◌, map, length, get_or, take, drop, set, Some, None, Option, sym, refl, ap, ◌∙◌, ap₂, arith, Result}
use Rattle.std.proofs.lemmas.List.{drop_more, drop_all, drop-drop, set_at, append_assoc, append-nil, length-map, length-take-le, map_more, take_all}
use Rattle.refusal.specs.declared.Refusal.{Refusal}
use Rattle.board.specs.declared.states.Table.{Table}
use Rattle.agreement.specs.declared.states.Instance.{Instance}
use Rattle.agreement.specs.Setups.{opened}
use Rattle.board.specs.Tables.{fits}
use Rattle.law.specs.declared.calls.SetupCall.{SetupCall}
use Rattle.law.specs.declared.calls.SetupCall.TheVariants.{MarkFaulty, Propose}
use Rattle.law.specs.declared.calls.Call.{Call}
use Rattle.law.specs.declared.calls.Call.TheVariants as call
use Rattle.law.specs.declared.calls.Told.{Told}
use Rattle.law.specs.Runs.{Tosses, SetupMove, Prepared, setup_after, setup_answer, setup_run, setup_history, setup_refusal, setup_effect, Move, World, refusal, effect, after, answered_by, run, history}
use Rattle.board.specs.Setups.{if_accepted}
use Rattle.play.specs.Played.{made_setup, asked_first, called_setup, first_world, Ran}
use Rattle.play.specs.Lending.{SameLengths}
use Rattle.play.specs.Moves.{Lent, fits_call, move_of, moves_of, setup_move_of, setup_moves_of, SetupMade, Made, world_of, surplus, setup_says, call_says}

-- a list whose front is written takes one more
pub write_more : {X : Type 0} (front old a a' : List X) (i : ℕ) (x : X) → length front ≡ i → i < length old → a ≡ front ++ drop i old → a' ≡ set a i x →
    a' ≡ (front ++ (x ∷ [])) ++ drop (i + 1) old
write_more front old a a' i x e l p q =
    q ∙ ap (λ ys. set ys i x) (p ∙ ap (λ ys. front ++ ys) (drop_more old i x l))
    ∙ set_at front (get_or old i x) (drop (i + 1) old) x i e
    ∙ sym (append_assoc front (x ∷ []) (drop (i + 1) old))

same_fit : {X : Type 0} (n n' m m' : ℕ) (xs ys : List X) → n ≡ n' → m ≡ m' → length xs ≡ length ys → fits (n * m) xs ≡ fits (n' * m') ys
same_fit n n' m m' xs ys en em e = cc

module _ {R : Type 0} where
  pub setup_run_push : (p : Prepared R) (vs : List (SetupMove R)) (v : SetupMove R) → setup_run p (vs ++ (v ∷ [])) ≡ setup_after (setup_run p vs) v
  unfolding setup_run
  setup_run_push p [] v = refl
  setup_run_push p (u ∷ vs) v = setup_run_push (setup_after p u) vs v

  pub setup_says_push : (p : Prepared R) (vs : List (SetupMove R)) (v : SetupMove R) →
      setup_says (setup_history p (vs ++ (v ∷ []))) ≡ setup_says (setup_history p vs) ++ (setup_answer (setup_run p vs) v ∷ [])
  unfolding setup_run setup_history
  setup_says_push p [] v = refl
  setup_says_push p (u ∷ vs) v = ap (λ xs. setup_answer p u ∷ xs) (setup_says_push (setup_after p u) vs v)

  pub length_setup_says : (p : Prepared R) (vs : List (SetupMove R)) → length (setup_says (setup_history p vs)) ≡ length vs
  unfolding setup_history
  length_setup_says p [] = refl
  length_setup_says p (v ∷ vs) = ap suc (length_setup_says (setup_after p v) vs)

  -- the sizes stay
  setup_sizes_one : (p : Prepared R) (o : Option Refusal) (k : SetupCall R) →
      ((if_accepted o (setup_effect p k) p).table.n ≡ p.table.n) × ((if_accepted o (setup_effect p k) p).table.m ≡ p.table.m)
  setup_sizes_one p None (MarkFaulty i) = (refl, refl)
  setup_sizes_one p None (Propose i c x) = (refl, refl)
  setup_sizes_one p (Some e) k = (refl, refl)

  pub setup_sizes : (p : Prepared R) (vs : List (SetupMove R)) → ((setup_run p vs).table.n ≡ p.table.n) × ((setup_run p vs).table.m ≡ p.table.m)
  unfolding setup_run
  setup_sizes p [] = (refl, refl)
  setup_sizes p (v ∷ vs) =
      let h = setup_sizes (setup_after p v) vs in
      let e = setup_sizes_one p (setup_refusal p v.fits v.call) v.call in
      (h.0 ∙ e.0, h.1 ∙ e.1)

  module _ (meaning : R → ℕ) where
    pub run_push : (w : World R) (vs : List (Move R)) (v : Move R) → run meaning w (vs ++ (v ∷ [])) ≡ after meaning (run meaning w vs) v
    unfolding run
    run_push w [] v = refl
    run_push w (u ∷ vs) v = run_push (after meaning w u) vs v

    pub says_push : (w : World R) (vs : List (Move R)) (v : Move R) →
        call_says (history meaning w (vs ++ (v ∷ []))) ≡ call_says (history meaning w vs) ++ (answered_by (run meaning w vs) v.fits v.call ∷ [])
    unfolding run history
    says_push w [] v = refl
    says_push w (u ∷ vs) v = ap (λ xs. answered_by w u.fits u.call ∷ xs) (says_push (after meaning w u) vs v)

    pub length_says : (w : World R) (vs : List (Move R)) → length (call_says (history meaning w vs)) ≡ length vs
    unfolding history
    length_says w [] = refl
    length_says w (v ∷ vs) = ap suc (length_says (after meaning w v) vs)

    sizes_one : (w : World R) (f : Tosses) (o : Option Refusal) (k : Call R) →
        ((if_accepted o (effect meaning f w k) w).state.table.n ≡ w.state.table.n) × ((if_accepted o (effect meaning f w k) w).state.table.m ≡ w.state.table.m)
    sizes_one w f None (call.SendValue i j c x) = (refl, refl)
    sizes_one w f None (call.SendBit i j c b) = (refl, refl)
    sizes_one w f None (call.SendFinal i j) = (refl, refl)
    sizes_one w f None call.Close = (refl, refl)
    sizes_one w f None (call.Decision i c) = (refl, refl)
    sizes_one w f None (call.Undecided k) = (refl, refl)
    sizes_one w f (Some e) k = (refl, refl)

    pub sizes_run : (w : World R) (vs : List (Move R)) → ((run meaning w vs).state.table.n ≡ w.state.table.n) × ((run meaning w vs).state.table.m ≡ w.state.table.m)
    unfolding run after
    sizes_run w [] = (refl, refl)
    sizes_run w (v ∷ vs) =
        let h = sizes_run (after meaning w v) vs in
        let e = sizes_one w v.tosses (refusal w v.fits v.call) v.call in
        (h.0 ∙ e.0, h.1 ∙ e.1)

  -- the boards with another values board
  abbrev pub with_values : Lent R → List (Option R) → Lent R
  with_values b xs = record { values = xs; scratch = b.scratch; sent = b.sent; marks = b.marks }

  -- boards of the same lengths fit alike
  pub same_fits : (n n' m m' : ℕ) (b b' : Lent R) → n ≡ n' → m ≡ m' → SameLengths b b' → (k : Call R) → fits_call n m b k ≡ fits_call n' m' b' k
  same_fits n n' m m' b b' en em s (call.SendValue i j c x) = cc
  same_fits n n' m m' b b' en em s (call.SendBit i j c k) = cc
  same_fits n n' m m' b b' en em s (call.SendFinal i j) = refl
  same_fits n n' m m' b b' en em s call.Close = cc
  same_fits n n' m m' b b' en em s (call.Decision i c) = cc
  same_fits n n' m m' b b' en em s (call.Undecided k) = refl

  pub same_move : (n n' m m' : ℕ) (b b' : Lent R) → n ≡ n' → m ≡ m' → SameLengths b b' → (f : Tosses) (k : Call R) → move_of n m b f k ≡ move_of n' m' b' f k
  same_move n n' m m' b b' en em s f k = ap (λ x. record { call = k; tosses = f; fits = x }) (same_fits n n' m m' b b' en em s k)

  pub same_moves : (n n' m m' : ℕ) (b b' : Lent R) → n ≡ n' → m ≡ m' → SameLengths b b' → (f : Tosses) (ks : List (Call R)) → moves_of n m b f ks ≡ moves_of n' m' b' f ks
  same_moves n n' m m' b b' en em s f [] = refl
  same_moves n n' m m' b b' en em s f (k ∷ ks) =
      ap (λ x. x ∷ moves_of n m b f ks) (same_move n n' m m' b b' en em s f k)
      ∙ ap (λ xs. move_of n' m' b' f k ∷ xs) (same_moves n n' m m' b b' en em s f ks)

  -- the first k setup calls were made, and their answers are written
  pub record SetupSoFar (p₀ p : Prepared R) (calls : List (SetupCall R)) (k : ℕ) (old answers : List (Result (Told R) Refusal)) : Type 0 where
    pub setup : p ≡ setup_run p₀ (setup_moves_of p₀.table.n p₀.table.m p₀.values (take k calls))
    pub answers_are : answers ≡ setup_says (setup_history p₀ (setup_moves_of p₀.table.n p₀.table.m p₀.values (take k calls))) ++ drop k old

  pub setup_step : (p₀ p q : Prepared R) (calls : List (SetupCall R)) (k : ℕ) (old a a' : List (Result (Told R) Refusal)) (x : Result (Told R) Refusal) (c : SetupCall R) →
      k < length calls → length calls ≤ length old → length p.values ≡ length p₀.values → c ≡ get_or calls k c →
      SetupMade (setup_move_of p.table.n p.table.m p.values c) p q x → a' ≡ set a k x →
      SetupSoFar p₀ p calls k old a → SetupSoFar p₀ q calls (k + 1) old a'
  setup_step p₀ p q calls k old a a' x c l long kept is made w inv =
      let f = setup_move_of p₀.table.n p₀.table.m p₀.values in
      let vs = map f (take k calls) in
      let sizes = setup_sizes p₀ vs in
      let en : p.table.n ≡ p₀.table.n = ap (λ (u : Prepared R). u.table.n) inv.setup ∙ sizes.0 in
      let em : p.table.m ≡ p₀.table.m = ap (λ (u : Prepared R). u.table.m) inv.setup ∙ sizes.1 in
      let ev : setup_move_of p.table.n p.table.m p.values c ≡ f c =
      ap (λ b. record { call = c; fits = b }) (same_fit p.table.n p₀.table.n p.table.m p₀.table.m p.values p₀.values en em kept) in
      let e : map f (take (k + 1) calls) ≡ vs ++ (f c ∷ []) = map_more f calls k c l ∙ ap (λ y. vs ++ (f y ∷ [])) (sym is) in
      let lf : length (setup_says (setup_history p₀ vs)) ≡ k = length_setup_says p₀ vs ∙ length-map (take k calls) f ∙ length-take-le k calls (omega arith) in
      record {
        setup = made.setup ∙ ap (setup_after p) ev ∙ ap (λ u. setup_after u (f c)) inv.setup ∙ sym (setup_run_push p₀ vs (f c)) ∙ ap (setup_run p₀) (sym e);
        answers_are = write_more (setup_says (setup_history p₀ vs)) old a a' k x lf (omega arith) inv.answers_are w
            ∙ ap (λ ys. ys ++ drop (k + 1) old)
            (ap (λ y. setup_says (setup_history p₀ vs) ++ (y ∷ [])) (made.answer ∙ ap (setup_answer p) ev ∙ ap (λ u. setup_answer u (f c)) inv.setup)
            ∙ sym (setup_says_push p₀ vs (f c)) ∙ ap (λ us. setup_says (setup_history p₀ us)) (sym e));
      }

  pub setup_none : (p : Prepared R) (calls : List (SetupCall R)) (old : List (Result (Told R) Refusal)) → SetupSoFar p p calls 0 old old
  unfolding setup_run setup_history
  setup_none p calls old = record { setup = refl; answers_are = refl }

  pub setup_end : (p₀ p : Prepared R) (calls : List (SetupCall R)) (k : ℕ) (old a : List (Result (Told R) Refusal)) → k ≡ length calls → SetupSoFar p₀ p calls k old a →
      (p ≡ setup_run p₀ (setup_moves_of p₀.table.n p₀.table.m p₀.values calls))
      × (a ≡ setup_says (setup_history p₀ (setup_moves_of p₀.table.n p₀.table.m p₀.values calls)) ++ drop (length calls) old)
  setup_end p₀ p calls k old a e inv =
      let t : take k calls ≡ calls = take_all k calls (omega arith) in
      let F = setup_moves_of p₀.table.n p₀.table.m p₀.values in (
        inv.setup ∙ ap (λ cs. setup_run p₀ (F cs)) t,
        inv.answers_are ∙ ap (λ cs. setup_says (setup_history p₀ (F cs)) ++ drop k old) t ∙ ap (λ j. setup_says (setup_history p₀ (F calls)) ++ drop j old) e,
      )

  -- the first k calls were made, and their answers are written
  pub record SoFar (meaning : R → ℕ) (f : Tosses) (s₀ s : Instance) (b₀ b : Lent R) (calls : List (Call R)) (k : ℕ) (old answers : List (Result (Told R) Refusal)) : Type 0 where
    pub world : world_of s b ≡ run meaning (world_of s₀ b₀) (moves_of s₀.table.n s₀.table.m b₀ f (take k calls))
    pub answers_are : answers ≡ call_says (history meaning (world_of s₀ b₀) (moves_of s₀.table.n s₀.table.m b₀ f (take k calls))) ++ drop k old
    pub rest : surplus s₀.table b ≡ surplus s₀.table b₀

  pub call_step : (meaning : R → ℕ) (f : Tosses) (s₀ s s' : Instance) (b₀ b b' : Lent R) (calls : List (Call R)) (k : ℕ) (old a a' : List (Result (Told R) Refusal)) (x : Result (Told R) Refusal) (c : Call R) →
      k < length calls → length calls ≤ length old → SameLengths b b₀ → c ≡ get_or calls k c →
      Made meaning (move_of s.table.n s.table.m b f c) (world_of s b) (world_of s' b') x → surplus s.table b' ≡ surplus s.table b → a' ≡ set a k x →
      SoFar meaning f s₀ s b₀ b calls k old a → SoFar meaning f s₀ s' b₀ b' calls (k + 1) old a'
  unfolding after answered_by
  call_step meaning f s₀ s s' b₀ b b' calls k old a a' x c l long kept is made over w inv =
      let F = move_of s₀.table.n s₀.table.m b₀ f in
      let w₀ = world_of s₀ b₀ in
      let vs = map F (take k calls) in
      let sizes = sizes_run meaning w₀ vs in
      let en : s.table.n ≡ s₀.table.n = ap (λ (u : World R). u.state.table.n) inv.world ∙ sizes.0 in
      let em : s.table.m ≡ s₀.table.m = ap (λ (u : World R). u.state.table.m) inv.world ∙ sizes.1 in
      let ev : move_of s.table.n s.table.m b f c ≡ F c = same_move s.table.n s₀.table.n s.table.m s₀.table.m b b₀ en em kept f c in
      let e : map F (take (k + 1) calls) ≡ vs ++ (F c ∷ []) = map_more F calls k c l ∙ ap (λ y. vs ++ (F y ∷ [])) (sym is) in
      let says₀ = call_says (history meaning w₀ vs) in
      let lv : length says₀ ≡ k = length_says meaning w₀ vs ∙ length-map (take k calls) F ∙ length-take-le k calls (omega arith) in
      let cells : s.table.n * s.table.m ≡ s₀.table.n * s₀.table.m = cc in
      record {
        world = made.world ∙ ap (after meaning (world_of s b)) ev ∙ ap (λ u. after meaning u (F c)) inv.world ∙ sym (run_push meaning w₀ vs (F c)) ∙ ap (run meaning w₀) (sym e);
        answers_are = write_more says₀ old a a' k x lv (omega arith) inv.answers_are w
            ∙ ap (λ ys. ys ++ drop (k + 1) old)
            (ap (λ y. says₀ ++ (y ∷ [])) (made.answer ∙ ap (λ (v : Move R). answered_by (world_of s b) v.fits v.call) ev ∙ ap (λ u. answered_by u (F c).fits (F c).call) inv.world)
            ∙ sym (says_push meaning w₀ vs (F c)) ∙ ap (λ us. call_says (history meaning w₀ us)) (sym e));
        rest = ap (λ j. drop j b'.scratch) (sym cells) ∙ over ∙ ap (λ j. drop j b.scratch) cells ∙ inv.rest;
      }

  pub call_none : (meaning : R → ℕ) (f : Tosses) (s : Instance) (b : Lent R) (calls : List (Call R)) (old : List (Result (Told R) Refusal)) → SoFar meaning f s s b b calls 0 old old
  unfolding run history
  call_none meaning f s b calls old = record { world = refl; answers_are = refl; rest = refl }

  -- all calls were made
  pub record AllMade (meaning : R → ℕ) (f : Tosses) (s₀ s : Instance) (b₀ b : Lent R) (calls : List (Call R)) (old answers : List (Result (Told R) Refusal)) : Type 0 where
    pub world : world_of s b ≡ run meaning (world_of s₀ b₀) (moves_of s₀.table.n s₀.table.m b₀ f calls)
    pub answers_are : answers ≡ call_says (history meaning (world_of s₀ b₀) (moves_of s₀.table.n s₀.table.m b₀ f calls)) ++ drop (length calls) old

  pub call_end : (meaning : R → ℕ) (f : Tosses) (s₀ s : Instance) (b₀ b : Lent R) (calls : List (Call R)) (k : ℕ) (old a : List (Result (Told R) Refusal)) → k ≡ length calls →
      SoFar meaning f s₀ s b₀ b calls k old a → AllMade meaning f s₀ s b₀ b calls old a
  call_end meaning f s₀ s b₀ b calls k old a e inv =
      let t : take k calls ≡ calls = take_all k calls (omega arith) in
      let F = moves_of s₀.table.n s₀.table.m b₀ f in
      let w₀ = world_of s₀ b₀ in
      record {
        world = inv.world ∙ ap (λ cs. run meaning w₀ (F cs)) t;
        answers_are = inv.answers_are ∙ ap (λ cs. call_says (history meaning w₀ (F cs)) ++ drop k old) t
            ∙ ap (λ j. call_says (history meaning w₀ (F calls)) ++ drop j old) e;
      }

  -- the setup calls, the opening and the calls make up the script
  pub script_ran : (meaning : R → ℕ) (f : Tosses) (t : Table) (b b' : Lent R) (ks : List (SetupCall R)) (cs : List (Call R)) (old early late first next : List (Result (Told R) Refusal)) (q : Prepared R) (s s' : Instance) →
      q ≡ called_setup t b ks → first ≡ setup_says (asked_first t b ks) ++ drop (length ks) early → length early ≡ length ks → late ≡ drop (length ks) old → s ≡ opened (record { table = q.table }) → length q.values ≡ length b.values →
      world_of s' b' ≡ run meaning (world_of s (with_values b q.values)) (moves_of s.table.n s.table.m (with_values b q.values) f cs) →
      next ≡ call_says (history meaning (world_of s (with_values b q.values)) (moves_of s.table.n s.table.m (with_values b q.values) f cs)) ++ drop (length cs) late →
      surplus s.table b' ≡ surplus s.table b → Ran meaning f t b ks cs b' old (first ++ next)
  script_ran meaning f t b b' ks cs old early late first next q s s' eq ef le el es lv ew ea er =
      let b₁ = with_values b q.values in
      let p = made_setup t b ks in
      let vs = setup_moves_of t.n t.m b.values ks in
      let w : world_of s b₁ ≡ first_world t b ks =
      ap₂ (λ (x : Instance) (xs : List (Option R)). record { state = x; values = xs; sent = b.sent; marks = b.marks }) (es ∙ ap (λ (u : Prepared R). opened (record { table = u.table })) eq) (ap (λ (u : Prepared R). u.values) eq) in
      let sizes = setup_sizes p vs in
      let en : s.table.n ≡ t.n = ap (λ (x : Instance). x.table.n) es ∙ ap (λ (u : Prepared R). u.table.n) eq ∙ sizes.0 in
      let em' : s.table.m ≡ t.m = ap (λ (x : Instance). x.table.m) es ∙ ap (λ (u : Prepared R). u.table.m) eq ∙ sizes.1 in
      let moves = same_moves s.table.n t.n s.table.m t.m b₁ b en em' (record { values = lv; scratch = refl; sent = refl; marks = refl }) f cs in
      let S = setup_says (asked_first t b ks) in
      let k = length ks in
      let front : first ≡ S = ef ∙ ap (λ xs. S ++ xs) (drop_all k early (omega arith)) ∙ append-nil S in
      let back : drop (length cs) late ≡ drop (k + length cs) old = ap (drop (length cs)) el ∙ drop-drop (length cs) k old in
      let calls = ap₂ (λ (u : World R) (us : List (Move R)). call_says (history meaning u us)) w moves in
      let last = ew ∙ ap₂ (run meaning) w moves in
      record {
        answers_are = ap₂ ◌++◌ front (ea ∙ ap₂ ◌++◌ calls back);
        values_are = ap (λ (u : World R). u.values) last;
        sent_is = ap (λ (u : World R). u.sent) last;
        marks_are = ap (λ (u : World R). u.marks) last;
        rest = ap (λ j. drop j b'.scratch) (sym (ap₂ ◌*◌ en em')) ∙ er ∙ ap (λ j. drop j b.scratch) (ap₂ ◌*◌ en em');
      }
