-- What every run keeps to, from a world in which each item is at a stage.
use Rattle.std.proofs.Common.{◌≡◌, ℕ, ◌<◌, ◌≤◌, Bool, true, false, cond, ◌⊎◌, List, ◌++◌, take, Some, None, Option, sym, refl, ap, ◌∙◌, subst, ap₂, inl, inr, arith, Ok, Err, Result, is_err}
use Rattle.std.proofs.lemmas.Bool.{true≢false, both_ways, cases_lt}
use Rattle.refusal.specs.declared.Refusal.{Refusal}
use Rattle.refusal.specs.declared.Refusal.TheVariants.{Over}
use Rattle.closing.specs.Counting.{quorum_of, weak_quorum_of}
use Rattle.closing.specs.Closings.{sends_cells}
use Rattle.closing.specs.declared.types.Phase.{Phase}
use Rattle.board.specs.Tables.{bit_at, decided_at, value_at}
use Rattle.board.specs.declared.states.Decision.TheVariants.{Undecided, Decided}
use Rattle.law.specs.declared.calls.Call.TheVariants as call
use Rattle.law.specs.declared.calls.Told.{Told}
use Rattle.law.specs.declared.calls.Told.TheVariants.{Done, Decision}
use Rattle.law.specs.Runs.{Tosses, World, Move, Asked, Ask, run, history, outcome_history}
use Rattle.law.specs.Law.{Same, DecisionAt, CloseAt, PastFour}
use Rattle.law.proofs.Quorums.{Quorum}
use Rattle.law.proofs.Leads.{cases_option, some_none, some_inj}
use Rattle.law.proofs.Ballots.{Majority}
use Rattle.law.proofs.Items.{Item, Closing, Timely, step_number, step_late}
use Rattle.law.proofs.Stages.{Stage, closing_stage, AllDecided, Known, known, Grows, grows_self, grows_on, closing_grows}
use Rattle.law.proofs.Unanimous.{Sure, sure_closes, Empty, empty_closes, stays_decided}
use Rattle.law.proofs.Worlds.{Fits, fits_run, item_of, run_keeps}
use Rattle.law.proofs.Histories.{step_in, place, later, steps_behind, close_counts, Says, decision_says, says_decided, says_open, over_says}
use Rattle.law.proofs.Overs.{over_decided}

-- the first step sends cells
first_early : (p : Phase) (k : ℕ) → Timely p k → step_number p k ≡ 1 → sends_cells p ≡ true
first_early p k t e = grind arith

module _ {R : Type 0} (meaning : R → ℕ) where
  pub same_sym : (x y : Option R) → Same meaning x y → Same meaning y x
  same_sym x y h = grind arith

  same_held : (v : ℕ) (x y : Option R) → (r : R) × (x ≡ Some r) × (meaning r ≡ v) → (r : R) × (y ≡ Some r) × (meaning r ≡ v) → Same meaning x y
  same_held v x y a b =
      subst (λ u. Same meaning u y) (sym a.1) (subst (λ u. Same meaning (Some a.0) u) (sym b.1) (a.2 ∙ sym b.2))

  same_some : (r : R) (x y : Option R) → x ≡ Some r → Same meaning x y → (r' : R) × (y ≡ Some r') × (meaning r' ≡ meaning r)
  same_some r x y e h = grind arith

  same_none : (x y : Option R) → x ≡ None → Same meaning x y → y ≡ None
  same_none x y e h = grind arith

module _ {R : Type 0} (meaning : R → ℕ) (n m : ℕ) (faulty : ℕ → Bool) (Q : Quorum n faulty (quorum_of n) (weak_quorum_of n))
    (start : ℕ → ℕ → Option R) (w : World R) (g : Fits n m faulty w)
    (stages : (c : ℕ) → c < m → Stage meaning n faulty (λ i. start i c) (item_of w c)) (vs : List (Move R)) (qs : List Ask) where
  -- the calls with their answers
  abbrev pub calls : List (Asked R)
  calls = history meaning w vs ++ outcome_history (run meaning w vs).state.table (run meaning w vs).values qs

  -- the world at place p
  abbrev pub world_at : ℕ → World R
  world_at p = run meaning w (take p vs)

  pub fits_at : (p : ℕ) → Fits n m faulty (world_at p)
  fits_at p = fits_run meaning n m faulty w (take p vs) g

  stage_at : (c p : ℕ) → c < m → Stage meaning n faulty (λ i. start i c) (item_of (world_at p) c)
  stage_at c p lc =
      run_keeps meaning n m faulty c lc (Stage meaning n faulty (λ i. start i c))
      (λ f x y k s. closing_stage meaning n faulty (quorum_of n) (weak_quorum_of n) c Q f x y k (λ i. start i c) s) w (take p vs) g (stages c lc)

  -- what an item keeps between two places
  between : (c p q : ℕ) → c < m → p ≤ q → (P : Item R → Type 0) →
      ((f : Tosses) (x y : Item R) → Closing meaning n faulty (quorum_of n) (weak_quorum_of n) c f x y → P x → P y) → P (item_of (world_at p) c) → P (item_of (world_at q) c)
  between c p q lc l P h s =
      let r = later meaning w vs p q l in
      subst (λ u. P (item_of u c)) (sym r.1) (run_keeps meaning n m faulty c lc P h (world_at p) r.0 (fits_at p) s)

  grows_between : (c p q : ℕ) → c < m → p ≤ q → sends_cells (item_of (world_at p) c).phase ≡ false → Grows meaning n faulty (item_of (world_at p) c) (item_of (world_at q) c)
  grows_between c p q lc l e =
      between c p q lc l (Grows meaning n faulty (item_of (world_at p) c))
      (λ f x y k s. grows_on meaning n faulty (item_of (world_at p) c) x y s (closing_grows meaning n faulty (quorum_of n) (weak_quorum_of n) c Q f x y k s.late))
      (grows_self meaning n faulty (item_of (world_at p) c) e)

  decided_between : (c p q : ℕ) → c < m → p ≤ q → AllDecided meaning n faulty (item_of (world_at p) c) → AllDecided meaning n faulty (item_of (world_at q) c)
  decided_between c p q lc l d =
      between c p q lc l (AllDecided meaning n faulty) (λ f x y k s. stays_decided meaning n faulty (quorum_of n) (weak_quorum_of n) c Q f x y k s) d

  -- What a decision that was not refused tells: of which node and item, and what stood there.
  pub record Found (p i c : ℕ) (a : Result (Told R) Refusal) : Type 0 where
    pub node : i < n
    pub item : c < m
    pub honest : faulty i ≡ false
    pub said : Says (world_at p) i c a

  pub found : (p i c : ℕ) (a : Result (Told R) Refusal) → DecisionAt calls p i c a → is_err a ≡ false → Found p i c a
  found p i c a h r =
      let z = place meaning w vs qs p (call.Decision i c) a h in
      let s = decision_says (world_at p) z.0 i c a z.1 r in
      let k = fits_at p in
      record {
        node = subst (λ u. i < u) k.n_is s.node;
        item = subst (λ u. c < u) k.m_is s.item;
        honest = sym (k.faulty_is i) ∙ s.honest;
        said = s;
      }

  same_known : (c p i j : ℕ) → i < n → faulty i ≡ false → j < n → faulty j ≡ false → (b : Bool) → Known meaning n faulty (λ i. start i c) (item_of (world_at p) c) b →
      Same meaning (cond b None ((item_of (world_at p) c).value i)) (cond b None ((item_of (world_at p) c).value j))
  same_known c p i j li si lj sj true k = tt
  same_known c p i j li si lj sj false k =
      let h = k.held refl in
      same_held meaning h.0 ((item_of (world_at p) c).value i) ((item_of (world_at p) c).value j) (h.2 i li si) (h.2 j lj sj)

  agree_after : (i j c p q : ℕ) (x y : Option R) → p ≤ q → DecisionAt calls p i c (Ok (Decision (Decided x))) → DecisionAt calls q j c (Ok (Decision (Decided y))) →
      Same meaning x y × (i ≡ j → x ≡ y)
  agree_after i j c p q x y l hx hy =
      let a = found p i c (Ok (Decision (Decided x))) hx refl in
      let b = found q j c (Ok (Decision (Decided y))) hy refl in
      let dx = says_decided (world_at p) i c x a.said in
      let dy = says_decided (world_at q) j c y b.said in
      let bi = (item_of (world_at p) c).bit i in
      let k = known meaning n faulty (λ i. start i c) (item_of (world_at p) c) i a.node a.honest (stage_at c p a.item) dx.0 in
      let gr = grows_between c p q a.item l k.late in
      let ey : y ≡ cond bi None ((item_of (world_at p) c).value j) =
      dy.1 ∙ ap₂ (λ u v. cond u None v) (gr.bits bi k.all j b.node b.honest) (gr.value j b.node b.honest) in (
        subst (λ u. Same meaning u y) (sym dx.1) (subst (λ u. Same meaning (cond bi None ((item_of (world_at p) c).value i)) u) (sym ey)
            (same_known c p i j a.node a.honest b.node b.honest bi k)),
        λ e. dx.1 ∙ ap (λ u. cond bi None ((item_of (world_at p) c).value u)) e ∙ sym ey,
      )

  pub agreement : (i j c p q : ℕ) (x y : Option R) → DecisionAt calls p i c (Ok (Decision (Decided x))) → DecisionAt calls q j c (Ok (Decision (Decided y))) → Same meaning x y
  agreement i j c p q x y hx hy = elim (cases_lt p q) [
    | inl l ↦ (agree_after i j c p q x y (omega arith) hx hy).0
    | inr l ↦ same_sym meaning y x (agree_after j i c q p y x l hy hx).0
  ]

  pub unchanging : (i c p q : ℕ) (x y : Option R) → DecisionAt calls p i c (Ok (Decision (Decided x))) → DecisionAt calls q i c (Ok (Decision (Decided y))) → x ≡ y
  unchanging i c p q x y hx hy = elim (cases_lt p q) [
    | inl l ↦ (agree_after i i c p q x y (omega arith) hx hy).1 refl
    | inr l ↦ sym ((agree_after i i c q p y x l hy hx).1 refl)
  ]

  pub lasting : (i c p q : ℕ) (x : Option R) → DecisionAt calls p i c (Ok (Decision (Decided x))) → p < q → DecisionAt calls q i c (Ok (Decision Undecided)) → ⊥
  lasting i c p q x hx l hy =
      let a = found p i c (Ok (Decision (Decided x))) hx refl in
      let b = found q i c (Ok (Decision Undecided)) hy refl in
      let dx = says_decided (world_at p) i c x a.said in
      let k = known meaning n faulty (λ i. start i c) (item_of (world_at p) c) i a.node a.honest (stage_at c p a.item) dx.0 in
      let gr = grows_between c p q a.item (omega arith) k.late in
      both_ways (decided_at (world_at q).state.table i c) (says_open (world_at q) i c b.said) (gr.decided i a.node a.honest dx.0)

  pub majority : (i c p : ℕ) (r : R) → DecisionAt calls p i c (Ok (Decision (Decided (Some r)))) → Majority meaning n faulty (λ i. start i c) (meaning r)
  majority i c p r h =
      let a = found p i c (Ok (Decision (Decided (Some r)))) h refl in
      let d = says_decided (world_at p) i c (Some r) a.said in
      go a.node a.honest ((item_of (world_at p) c).bit i) (known meaning n faulty (λ i. start i c) (item_of (world_at p) c) i a.node a.honest (stage_at c p a.item) d.0) d.1
    where
      go : i < n → faulty i ≡ false → (b : Bool) → Known meaning n faulty (λ i. start i c) (item_of (world_at p) c) b → Some r ≡ cond b None ((item_of (world_at p) c).value i) →
          Majority meaning n faulty (λ i. start i c) (meaning r)
      go l s true k e = absurd (some_none r (Some r) refl e)
      go l s false k e =
          let d = k.held refl in
          let x = d.2 i l s in
          let f : x.0 ≡ r = some_inj x.0 r ((item_of (world_at p) c).value i) x.1 (sym e) in
          subst (λ v. Majority meaning n faulty (λ i. start i c) v) (sym x.2 ∙ ap meaning f) d.1

  module _ (first : step_in w ≡ 1) where
    -- once step 4 is behind, the steps are late, and step 5 is in force or all is decided
    past_four : (c p : ℕ) → c < m → PastFour calls p →
        (sends_cells (item_of (world_at p) c).phase ≡ false) × ((5 ≤ step_in (world_at p)) ⊎ AllDecided meaning n faulty (item_of (world_at p) c))
    past_four c p lc z = go z.3
      where
        go : CloseAt calls z.0 (Ok Done) ⊎ CloseAt calls z.0 (Err Over) →
            (sends_cells (item_of (world_at p) c).phase ≡ false) × ((5 ≤ step_in (world_at p)) ⊎ AllDecided meaning n faulty (item_of (world_at p) c))
        go (inl e) =
            let s = steps_behind meaning n m faulty w vs qs p g in
            let four = z.2 in
            let k = close_counts calls z.0 p (record { call = call.Close; answer = Ok Done }) z.1 e refl in
            let five : 5 ≤ step_in (world_at p) = omega arith in
            (step_late (world_at p).state.phase (world_at p).state.round (omega arith), inl five)
        go (inr e) =
            let s = steps_behind meaning n m faulty w vs qs z.0 g in
            let four = z.2 in
            let at : step_in (world_at z.0) ≡ 4 = omega arith in
            let pl = place meaning w vs qs z.0 call.Close (Err Over) e in
            let o = over_says (world_at z.0) pl.0 pl.1 in
            let k = fits_at z.0 in
            let late = step_late (world_at z.0).state.phase (world_at z.0).state.round (omega arith) in
            let before : z.0 ≤ p = omega (arith, z.1) in (
              (grows_between c z.0 p lc before late).late,
              inr (decided_between c z.0 p lc before (λ i l f.
                  over_decided (world_at z.0).state o k.timely (omega arith) i c (subst (λ u. i < u) (sym k.n_is) l) (subst (λ u. c < u) (sym k.m_is) lc) (k.faulty_is i ∙ f))),
            )

    -- the answer where a node has decided
    answers : (p i c : ℕ) (a : Result (Told R) Refusal) (b : Bool) (o y : Option R) → Says (world_at p) i c a → decided_at (world_at p).state.table i c ≡ true →
        bit_at (world_at p).state.table i c ≡ b → value_at (world_at p).state.table (world_at p).values i c ≡ o → Same meaning (cond b None o) y →
        (x : Option R) × (a ≡ Ok (Decision (Decided x))) × Same meaning x y
    answers p i c a b o y s d e f h =
        (cond b None o, s.says ∙ (λ z. Ok (Decision (cond (d z) (Decided (cond (e z) None (f z))) Undecided))), h)

    pub unanimity : (c : ℕ) → ((i : ℕ) → i < n → faulty i ≡ false → c < m → (item_of w c).value i ≡ start i c) →
        ((i j : ℕ) → i < n → faulty i ≡ false → j < n → faulty j ≡ false → Same meaning (start i c) (start j c)) →
        (i p : ℕ) (a : Result (Told R) Refusal) → PastFour calls p → DecisionAt calls p i c a → is_err a ≡ false →
        (x : Option R) × (a ≡ Ok (Decision (Decided x))) × Same meaning x (start i c)
    unanimity c o all i p a z h r =
        let s = found p i c a h r in
        let l = past_four c p s.item z in
        go s.node s.item s.honest s.said l.0 l.1 (cases_option (start i c))
      where
        go : i < n → c < m → faulty i ≡ false → Says (world_at p) i c a → sends_cells (item_of (world_at p) c).phase ≡ false →
            (5 ≤ step_in (world_at p)) ⊎ AllDecided meaning n faulty (item_of (world_at p) c) → (start i c ≡ None) ⊎ ((r : R) × (start i c ≡ Some r)) →
            (x : Option R) × (a ≡ Ok (Decision (Decided x))) × Same meaning x (start i c)
        go li lc si sd late k (inl e) =
            let y = run_keeps meaning n m faulty c lc (Empty meaning n faulty) (λ f x y k s. empty_closes meaning n faulty (quorum_of n) (weak_quorum_of n) c Q f x y k s) w (take p vs) g
            (record {
              timely = g.timely;
              blank = λ j l t. o j l t lc ∙ same_none meaning (start i c) (start j c) e (all i j li si l t);
              bits = λ q. absurd (true≢false (sym (first_early w.state.phase w.state.round g.timely first) ∙ q));
              decided = λ q. absurd (omega arith);
            }) in
            let d : decided_at (world_at p).state.table i c ≡ true = elim k [ inl q ↦ y.decided q i li si | inr q ↦ q i li si ] in
            answers p i c a true ((item_of (world_at p) c).value i) (start i c) sd d (y.bits late i li si) refl (subst (λ u. Same meaning None u) (sym e) tt)
        go li lc si sd late k (inr e) =
            let y = run_keeps meaning n m faulty c lc (Sure meaning n faulty (meaning e.0)) (λ f x y k s. sure_closes meaning n faulty (quorum_of n) (weak_quorum_of n) c Q f x y k (meaning e.0) s) w (take p vs) g
            (record {
              timely = g.timely;
              holds = λ j l t. let h = same_some meaning e.0 (start i c) (start j c) e.1 (all i j li si l t) in (h.0, o j l t lc ∙ h.1, h.2);
              bits = λ q. absurd (true≢false (sym (first_early w.state.phase w.state.round g.timely first) ∙ q));
              decided = λ q. absurd (omega arith);
            }) in
            let d : decided_at (world_at p).state.table i c ≡ true = elim k [ inl q ↦ y.decided (omega arith) i li si | inr q ↦ q i li si ] in
            let h = y.holds i li si in
            answers p i c a false (Some h.0) (start i c) sd d (y.bits late i li si) h.1 (subst (λ u. Same meaning (Some h.0) u) (sym e.1) h.2)
