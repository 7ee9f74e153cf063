-- Two coins that leave an item undecided have tossed it alike.
use Rattle.std.proofs.Common.{◌≡◌, ℕ, suc, ◌+◌, ◌*◌, ◌<◌, ◌≤◌, Bool, true, false, not, ltb, ◌⊎◌, List, [], ◌∷◌, map, Option, sym, ap, ◌∙◌, subst, ap₂, inl, inr, arith}
use Rattle.std.proofs.lemmas.Bool.{both_ways, cases_Bool, cases_eq}
use Rattle.coin.specs.Tosses.{toss_of}
use Rattle.closing.specs.declared.types.Phase.{Phase}
use Rattle.closing.specs.declared.types.Phase.TheVariants.{Toss}
use Rattle.closing.specs.Counting.{quorum_of, weak_quorum_of}
use Rattle.board.specs.Tables.{decided_at}
use Rattle.agreement.specs.Calls.{is_over}
use Rattle.law.specs.declared.calls.Call.TheVariants as call
use Rattle.law.specs.Runs.{Tosses, World, Move, after, run}
use Rattle.law.specs.Law.{Plain}
use Rattle.law.proofs.Quorums.{Quorum}
use Rattle.law.proofs.Leads.{heard_same}
use Rattle.law.proofs.Votings.{vote, voted, one_toss}
use Rattle.law.proofs.Items.{Item, step_number, step_next, step_late, marks_bits}
use Rattle.law.proofs.Stages.{Stage, closing_stage, AllBits, decided_stays}
use Rattle.law.proofs.Tossing.{Alike, closing_alike, Deciding, deciding_closes, decision_step, toss_follows}
use Rattle.law.proofs.Worlds.{Fits, fits_effect, fits_after, item_of, closed_world, close_item, run_keeps}
use Rattle.law.proofs.Histories.{step_in}
use Rattle.law.proofs.Overs.{open_over}
use Rattle.law.proofs.Paces.{Pace, closed_pace, Both, still, both, after_both, cells_same, marks_same}

-- a call with a coin
abbrev pub with_tosses : {R : Type 0} → Tosses → Plain R → Move R
with_tosses f p = record { call = p.call; tosses = f; fits = p.fits }

same_or_not : (x b : Bool) → (x ≡ b) ⊎ (x ≡ not b)
same_or_not x b = grind arith

toss_number : (p : Phase) (k : ℕ) → p ≡ Toss → step_number p k ≡ 3 * k + 2
toss_number p k e = grind arith

module _ {R : Type 0} (meaning : R → ℕ) (n m : ℕ) (faulty : ℕ → Bool) (pn : 0 < n) (Q : Quorum n faulty (quorum_of n) (weak_quorum_of n)) (c : ℕ) (lc : c < m) where
  pm : 0 < m
  pm = omega arith

  -- item c is undecided at some honest node
  pub record Open (w : World R) : Type 0 where
    pub at : ℕ
    pub node : at < n
    pub honest : faulty at ≡ false
    pub undecided : decided_at w.state.table at c ≡ false

  -- what is undecided was undecided
  pub open_before : (w : World R) (vs : List (Move R)) → Fits n m faulty w → Open (run meaning w vs) → Open w
  open_before w vs g o = record {
    at = o.at;
    node = o.node;
    honest = o.honest;
    undecided = elim (cases_Bool (decided_at w.state.table o.at c)) [
      | inl d ↦ absurd (both_ways _ o.undecided (run_keeps meaning n m faulty c lc (λ x. x.decided o.at ≡ true)
          (λ f x y k e. decided_stays meaning n faulty (quorum_of n) (weak_quorum_of n) c Q f x y k o.at o.node o.honest e) w vs g d))
      | inr d ↦ d
    ];
  }

  -- as long as the item is undecided in both runs, both are over or neither is
  same_over : (a b : World R) → Fits n m faulty a → Fits n m faulty b → Pace n m a b → Open a → Open b → is_over a.state ≡ is_over b.state
  same_over a b ga gb w oa ob = over a ga oa ∙ ap (ltb 100) w.round ∙ sym (over b gb ob)
    where
      over : (s : World R) → Fits n m faulty s → Open s → is_over s.state ≡ ltb 100 s.state.round
      over s g o = open_over s.state o.at c (subst (λ k. o.at < k) (sym g.n_is) o.node) (subst (λ k. c < k) (sym g.m_is) lc) (g.faulty_is o.at ∙ o.honest) o.undecided

  closed_step : (f : Tosses) (w : World R) → Fits n m faulty w → step_in (closed_world meaning f w) ≡ suc (step_in w)
  closed_step f w g = step_next w.state.phase w.state.round g.timely

  item_step : (w w' : World R) → item_of w' c ≡ item_of w c → step_in w' ≡ step_in w
  item_step w w' e = ap (λ (x : Item R). step_number x.phase x.round) e

  module _ (f g : Tosses) where
    -- two runs that stay undecided keep pace
    pub keep_pace : (ps : List (Plain R)) (a b : World R) → Fits n m faulty a → Fits n m faulty b → Pace n m a b →
        Open (run meaning a (map (with_tosses f) ps)) → Open (run meaning b (map (with_tosses g) ps)) →
        step_in (run meaning a (map (with_tosses f) ps)) ≡ step_in (run meaning b (map (with_tosses g) ps))
    unfolding run
    keep_pace [] a b ga gb w oa ob = ap₂ step_number w.phase w.round
    keep_pace (p ∷ ps) a b ga gb w oa ob =
        let h = same_over a b ga gb w (open_before a (with_tosses f p ∷ map (with_tosses f) ps) ga oa) (open_before b (with_tosses g p ∷ map (with_tosses g) ps) gb ob) in
        keep_pace ps (after meaning a (with_tosses f p)) (after meaning b (with_tosses g p)) (fits_after meaning n m faulty a (with_tosses f p) ga) (fits_after meaning n m faulty b (with_tosses g p) gb)
        (pace (after_both meaning n m faulty pn pm a b ga gb w h f g c p)) oa ob
      where
        pace : {a' b' : World R} → Both meaning n m faulty pn pm a b ga gb w f g c a' b' → Pace n m a' b'
        pace (still q e d) = q
        pace {a'} {b'} (both e d) = subst (λ u. Pace n m u b') (sym e) (subst (λ u. Pace n m (closed_world meaning f a) u) (sym d) (closed_pace meaning n m faulty pn pm a b ga gb w f g))

  -- where all honest bits are alike before a round, the item is decided after its second step
  bits_decide : (d : Bool) (r : ℕ) (w : World R) → Fits n m faulty w → step_in w ≡ 3 * r + 3 → AllBits meaning n faulty d (item_of w c) → (vs : List (Move R)) →
      3 * r + 4 < step_in (run meaning w vs) → Open (run meaning w vs) → ⊥
  bits_decide d r w g e a vs h o =
      let s = run_keeps meaning n m faulty c lc (Deciding meaning n faulty d r) (λ f x y k s. deciding_closes meaning n faulty (quorum_of n) (weak_quorum_of n) c Q f x y k d r s) w vs g
      (record { timely = g.timely; late = step_late w.state.phase w.state.round (omega arith); all = a; decided = λ l. absurd (too_early d l) }) in
      both_ways _ o.undecided (s.decided (passed d) o.at o.node o.honest)
    where
      too_early : (d : Bool) → decision_step d r < step_in w → ⊥
      too_early true l = omega arith
      too_early false l = omega arith

      passed : (d : Bool) → decision_step d r < step_in (run meaning w vs)
      passed true = omega arith
      passed false = omega arith

  -- a toss that all honest nodes would follow was not made, if the item is still undecided two steps later
  toss_off : (start : ℕ → Option R) (f : Tosses) (v : Bool) (r : ℕ) (a : World R) (ga : Fits n m faulty a) → Stage meaning n faulty start (item_of a c) → 1 ≤ r → step_in a ≡ 3 * r + 2 →
      ((j : ℕ) → j < n → faulty j ≡ false → (voted n faulty (quorum_of n) Toss ((close_item meaning n m faulty f a c ga lc).0.marks j) v).0 ≡ v) →
      (us : List (Move R)) → 3 * r + 4 < step_in (run meaning (closed_world meaning f a) us) → Open (run meaning (closed_world meaning f a) us) →
      Fits n m faulty (closed_world meaning f a) → ((j : ℕ) → j < n → faulty j ≡ false → toss_of f j r c ≡ v) → ⊥
  toss_off start f v r a ga s p q h us fin op ga' t =
      let x = toss_follows meaning n faulty (quorum_of n) (weak_quorum_of n) c Q f (item_of a c) (item_of (closed_world meaning f a) c) (close_item meaning n m faulty f a c ga lc).0 start v r s p q h t in
      bits_decide x.0 r (closed_world meaning f a) ga' (omega (arith, closed_step f a ga)) x.1 us fin op

  module _ (f g : Tosses) (tf : (i j k : ℕ) → i < n → faulty i ≡ false → j < n → faulty j ≡ false → toss_of f i k c ≡ toss_of f j k c)
      (tg : (i j k : ℕ) → i < n → faulty i ≡ false → j < n → faulty j ≡ false → toss_of g i k c ≡ toss_of g j k c) (start : ℕ → Option R) where
    -- What two runs have in common as long as the item is undecided in both.
    record Twin (a b : World R) : Type 0 where
      fits_a : Fits n m faulty a
      fits_b : Fits n m faulty b
      pace : Pace n m a b
      alike : Alike meaning n faulty (item_of a c) (item_of b c)
      stage_a : Stage meaning n faulty start (item_of a c)
      stage_b : Stage meaning n faulty start (item_of b c)

    fits_closed : (f : Tosses) (a : World R) → Fits n m faulty a → Fits n m faulty (closed_world meaning f a)
    fits_closed f a ga = fits_effect meaning n m faulty a f call.Close ga

    marks_heard : (a b : World R) (w : Twin a b) (j i : ℕ) → j < n → i < n →
        (close_item meaning n m faulty f a c w.fits_a lc).0.marks j i ≡ (close_item meaning n m faulty g b c w.fits_b lc).0.marks j i
    marks_heard a b w j i lj li =
        (close_item meaning n m faulty f a c w.fits_a lc).2 j i
        ∙ marks_same meaning n m faulty pn pm a b w.fits_a w.fits_b w.pace c lc w.alike j i lj li
        ∙ sym ((close_item meaning n m faulty g b c w.fits_b lc).2 j i)

    cells_heard : (a b : World R) (w : Twin a b) (j i : ℕ) → j < n → i < n →
        (close_item meaning n m faulty f a c w.fits_a lc).0.cells j i ≡ (close_item meaning n m faulty g b c w.fits_b lc).0.cells j i
    cells_heard a b w j i lj li =
        (close_item meaning n m faulty f a c w.fits_a lc).1 j i
        ∙ cells_same meaning n m faulty pn pm a b w.fits_a w.fits_b w.pace c lc w.alike j i lj li
        ∙ sym ((close_item meaning n m faulty g b c w.fits_b lc).1 j i)

    toss_agrees : (r : ℕ) (a b : World R) → Twin a b → 1 ≤ r → step_in a ≡ 3 * r + 2 → (us vs : List (Move R)) →
        3 * r + 4 < step_in (run meaning (closed_world meaning f a) us) → 3 * r + 4 < step_in (run meaning (closed_world meaning g b) vs) →
        Open (run meaning (closed_world meaning f a) us) → Open (run meaning (closed_world meaning g b) vs) →
        (i : ℕ) → i < n → faulty i ≡ false → toss_of f i r c ≡ toss_of g i r c
    toss_agrees r a b w p q us vs fa fb oa ob i li si =
        let ka = (close_item meaning n m faulty f a c w.fits_a lc).0 in
        go (one_toss n faulty (quorum_of n) (weak_quorum_of n) Q (item_of a c).bit ka.marks
        (λ j l s. marks_bits meaning n faulty (quorum_of n) (weak_quorum_of n) c f (item_of a c) (item_of (closed_world meaning f a) c) ka j))
      where
        go : (v : Bool) × ((j : ℕ) → j < n → faulty j ≡ false → (voted n faulty (quorum_of n) Toss ((close_item meaning n m faulty f a c w.fits_a lc).0.marks j) v).0 ≡ v) →
            toss_of f i r c ≡ toss_of g i r c
        go h = elim (same_or_not (toss_of f i r c) h.0) [
          | inl e ↦ absurd (toss_off start f h.0 r a w.fits_a w.stage_a p q h.1 us fa oa (fits_closed f a w.fits_a) (λ j l s. tf j i r l s li si ∙ e))
          | inr e ↦ elim (same_or_not (toss_of g i r c) h.0) [
            | inl d ↦ absurd (toss_off start g h.0 r b w.fits_b w.stage_b p (sym (ap₂ step_number w.pace.phase w.pace.round) ∙ q)
                (λ j l s. ap (λ ms. (vote Toss (quorum_of n) h.0 ms).0)
                (sym (heard_same n ((close_item meaning n m faulty f a c w.fits_a lc).0.marks j) ((close_item meaning n m faulty g b c w.fits_b lc).0.marks j) (λ i m. marks_heard a b w j i l m)))
                ∙ h.1 j l s)
                vs fb ob (fits_closed g b w.fits_b) (λ j l s. tg j i r l s li si ∙ d))
            | inr d ↦ e ∙ sym d
          ]
        ]

    -- what is to be shown of the rounds from here to k
    abbrev Goal : ℕ → World R → Type 0
    Goal k a = (j : ℕ) → 1 ≤ j → j ≤ k → step_in a ≤ 3 * j + 2 → (i : ℕ) → i < n → faulty i ≡ false → toss_of f i j c ≡ toss_of g i j c

    close_case : (k : ℕ) (a b : World R) → Twin a b → (us vs : List (Move R)) →
        3 * k + 4 < step_in (run meaning (closed_world meaning f a) us) → 3 * k + 4 < step_in (run meaning (closed_world meaning g b) vs) →
        Open (run meaning (closed_world meaning f a) us) → Open (run meaning (closed_world meaning g b) vs) →
        (Twin (closed_world meaning f a) (closed_world meaning g b) → Goal k (closed_world meaning f a)) → Goal k a
    close_case k a b w us vs fa fb oa ob rec j p q h i li si =
        elim (cases_eq (step_in a) (3 * j + 2)) [
          | inl e ↦ toss_agrees j a b w p e us vs (omega arith) (omega arith) oa ob i li si
          | inr e ↦ rec (record {
            fits_a = fits_closed f a w.fits_a;
            fits_b = fits_closed g b w.fits_b;
            pace = closed_pace meaning n m faulty pn pm a b w.fits_a w.fits_b w.pace f g;
            alike = closing_alike meaning n faulty (quorum_of n) (weak_quorum_of n) c Q f g (item_of a c) (item_of b c) (item_of (closed_world meaning f a) c) (item_of (closed_world meaning g b) c)
                (close_item meaning n m faulty f a c w.fits_a lc).0 (close_item meaning n m faulty g b c w.fits_b lc).0 w.alike
                (λ j i l s l'. cells_heard a b w j i l l') (λ j i l s l'. marks_heard a b w j i l l') here;
            stage_a = closing_stage meaning n faulty (quorum_of n) (weak_quorum_of n) c Q f (item_of a c) (item_of (closed_world meaning f a) c) (close_item meaning n m faulty f a c w.fits_a lc).0 start w.stage_a;
            stage_b = closing_stage meaning n faulty (quorum_of n) (weak_quorum_of n) c Q g (item_of b c) (item_of (closed_world meaning g b) c) (close_item meaning n m faulty g b c w.fits_b lc).0 start w.stage_b;
          }) j p q (omega (arith, closed_step f a w.fits_a)) i li si
        ]
      where
        here : (j : ℕ) → j < n → faulty j ≡ false → a.state.phase ≡ Toss → toss_of f j a.state.round c ≡ toss_of g j a.state.round c
        here z l s e =
            let t = toss_number a.state.phase a.state.round e in
            let begun = w.fits_a.timely.begun in
            toss_agrees a.state.round a b w begun t us vs (omega arith) (omega arith) oa ob z l s

    next_case : (k : ℕ) (a b a' b' : World R) (w : Twin a b) → Fits n m faulty a' → Fits n m faulty b' →
        Both meaning n m faulty pn pm a b w.fits_a w.fits_b w.pace f g c a' b' → (us vs : List (Move R)) →
        3 * k + 4 < step_in (run meaning a' us) → 3 * k + 4 < step_in (run meaning b' vs) → Open (run meaning a' us) → Open (run meaning b' vs) →
        (Twin a' b' → Goal k a') → Goal k a
    next_case k a b a' b' w ga gb (still p ea eb) us vs fa fb oa ob rec = λ j x y h.
        rec (record {
          fits_a = ga;
          fits_b = gb;
          pace = p;
          alike = subst (λ u. Alike meaning n faulty u (item_of b' c)) (sym ea) (subst (λ u. Alike meaning n faulty (item_of a c) u) (sym eb) w.alike);
          stage_a = subst (Stage meaning n faulty start) (sym ea) w.stage_a;
          stage_b = subst (Stage meaning n faulty start) (sym eb) w.stage_b;
        }) j x y (omega (arith, item_step a a' ea))
    next_case k a b a' b' w ga gb (both ea eb) us vs fa fb oa ob rec =
        close_case k a b w us vs
        (subst (λ u. 3 * k + 4 < step_in (run meaning u us)) ea fa) (subst (λ u. 3 * k + 4 < step_in (run meaning u vs)) eb fb)
        (subst (λ u. Open (run meaning u us)) ea oa) (subst (λ u. Open (run meaning u vs)) eb ob)
        (λ t. subst (λ u. Goal k u) ea (rec (subst (λ u. Twin u b') (sym ea) (subst (λ u. Twin (closed_world meaning f a) u) (sym eb) t))))

    coins_agree : (k : ℕ) (ps : List (Plain R)) (a b : World R) → Twin a b →
        3 * k + 4 < step_in (run meaning a (map (with_tosses f) ps)) → 3 * k + 4 < step_in (run meaning b (map (with_tosses g) ps)) →
        Open (run meaning a (map (with_tosses f) ps)) → Open (run meaning b (map (with_tosses g) ps)) → Goal k a
    unfolding run
    coins_agree k [] a b w fa fb oa ob = λ j x y h i li si. absurd (omega arith)
    coins_agree k (p ∷ ps) a b w fa fb oa ob =
        let h = same_over a b w.fits_a w.fits_b w.pace (open_before a (with_tosses f p ∷ map (with_tosses f) ps) w.fits_a oa) (open_before b (with_tosses g p ∷ map (with_tosses g) ps) w.fits_b ob) in
        next_case k a b (after meaning a (with_tosses f p)) (after meaning b (with_tosses g p)) w
        (fits_after meaning n m faulty a (with_tosses f p) w.fits_a) (fits_after meaning n m faulty b (with_tosses g p) w.fits_b)
        (after_both meaning n m faulty pn pm a b w.fits_a w.fits_b w.pace h f g c p) (map (with_tosses f) ps) (map (with_tosses g) ps) fa fb oa ob
        (λ t. coins_agree k ps (after meaning a (with_tosses f p)) (after meaning b (with_tosses g p)) t fa fb oa ob)

    -- two runs that leave the item undecided past step 3k + 4 were tossed alike in rounds 1 to k
    pub tossed_alike : (k : ℕ) (ps : List (Plain R)) (a b : World R) → Fits n m faulty a → Fits n m faulty b → Pace n m a b → Alike meaning n faulty (item_of a c) (item_of b c) →
        Stage meaning n faulty start (item_of a c) → Stage meaning n faulty start (item_of b c) → step_in a ≡ 1 →
        3 * k + 4 < step_in (run meaning a (map (with_tosses f) ps)) ⊎ 3 * k + 4 < step_in (run meaning b (map (with_tosses g) ps)) →
        Open (run meaning a (map (with_tosses f) ps)) → Open (run meaning b (map (with_tosses g) ps)) →
        (j : ℕ) → 1 ≤ j → j ≤ k → (i : ℕ) → i < n → faulty i ≡ false → toss_of f i j c ≡ toss_of g i j c
    tossed_alike k ps a b ga gb p al sa sb first late oa ob j x y i li si =
        let e = keep_pace f g ps a b ga gb p oa ob in
        let fa : 3 * k + 4 < step_in (run meaning a (map (with_tosses f) ps)) = elim late [ inl l ↦ l | inr l ↦ omega arith ] in
        coins_agree k ps a b (record { fits_a = ga; fits_b = gb; pace = p; alike = al; stage_a = sa; stage_b = sb }) fa (omega arith) oa ob j x y (omega arith) i li si
