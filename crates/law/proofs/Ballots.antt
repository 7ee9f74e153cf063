-- One item at one close, over plain functions from nodes.
use Rattle.std.proofs.Common.{◌≡◌, ℕ, ◌*◌, ◌<◌, ◌≤◌, Bool, true, false, not, ◌&&◌, Some, None, Option, sym, ap, ◌∙◌, subst, inl, inr, arith}
use Rattle.closing.specs.Counting.{means}
use Rattle.law.proofs.Tallies.{tally}
use Rattle.law.proofs.Quorums.{Quorum, meet, all_honest, weak_honest, weak_below, carried, majority}
use Rattle.law.proofs.Leads.{or_else, backing, leads, cases_option, some_none, some_inj, or_some, or_has, reading, means_some, leads_backed, leads_has}

module _ {R : Type 0} (meaning : R → ℕ) (n : ℕ) (faulty : ℕ → Bool) where
  -- a node hears from each honest node what that node sends
  abbrev pub Faithful : {A : Type 0} → (ℕ → A) → (ℕ → A) → Type 0
  Faithful heard values = (i : ℕ) → i < n → faulty i ≡ false → heard i ≡ values i

  -- a majority of the honest began with the meaning v
  abbrev pub Majority : (ℕ → Option R) → ℕ → Type 0
  Majority start v = tally n (λ i. not (faulty i)) < 2 * tally n (λ i. not (faulty i) && means meaning v (start i))

  -- each honest node that has a reading has one that a majority began with
  abbrev pub Sifted : (ℕ → Option R) → (ℕ → Option R) → Type 0
  Sifted start values = (i : ℕ) → i < n → faulty i ≡ false → (r : R) → values i ≡ Some r → Majority start (meaning r)

  -- all honest nodes have readings of the meaning v
  abbrev pub Holding : ℕ → (ℕ → Option R) → Type 0
  Holding v values = (i : ℕ) → i < n → faulty i ≡ false → (r : R) × (values i ≡ Some r) × (meaning r ≡ v)

  abbrev pub Blank : (ℕ → Option R) → Type 0
  Blank values = (i : ℕ) → i < n → faulty i ≡ false → values i ≡ None

  -- two majorities are of one meaning
  pub one_meaning : (start : ℕ → Option R) (v u : ℕ) → Majority start v → Majority start u → v ≡ u
  one_meaning start v u a b =
      let w = meet n faulty (λ i. means meaning v (start i)) (λ i. means meaning u (start i)) a b in
      let r = reading meaning v (start w.0) w.3 in
      let r' = reading meaning u (start w.0) w.4 in
      let e : r.0 ≡ r'.0 = some_inj r.0 r'.0 (start w.0) r.1 r'.1 in
      sym r.2 ∙ ap meaning e ∙ r'.2

  module _ (q w : ℕ) (Q : Quorum n faulty q w) where
    pub q_pos : 0 < q
    q_pos = omega (arith, Q.cross)

    pub w_pos : 0 < w
    w_pos = omega (arith, Q.cross, Q.half)

    -- a meaning with the weak quorum is that of an honest node
    pub weak_held : (values heard : ℕ → Option R) → Faithful heard values → (v : ℕ) → w ≤ backing meaning n heard v →
        (i : ℕ) × (i < n) × (faulty i ≡ false) × ((r : R) × (values i ≡ Some r) × (meaning r ≡ v))
    weak_held values heard f v h =
        let s = weak_honest n faulty q w Q (λ i. means meaning v (heard i)) h in
        let r = reading meaning v (heard s.0) s.3 in
        (s.0, s.1, s.2, (r.0, sym (f s.0 s.1 s.2) ∙ r.1, r.2))

    pub quorum_weak : (v : ℕ) (heard : ℕ → Option R) → q ≤ backing meaning n heard v → w ≤ backing meaning n heard v
    quorum_weak v heard h = omega (arith, weak_below n faulty q w Q)

    -- the held cell has the weak quorum
    pub held_backed : (heard : ℕ → Option R) (r : R) → or_else (leads meaning n q heard) (leads meaning n w heard) ≡ Some r → w ≤ backing meaning n heard (meaning r)
    held_backed heard r e =
        elim (or_some r (leads meaning n q heard) (leads meaning n w heard) e) [
          | inl h ↦ quorum_weak (meaning r) heard (leads_backed meaning n q heard r h)
          | inr h ↦ leads_backed meaning n w heard r h
        ]

    -- the poll: a cell that is kept is one that a majority began with
    pub poll_sifts : (start heard : ℕ → Option R) → Faithful heard start → (r : R) → leads meaning n q heard ≡ Some r → Majority start (meaning r)
    poll_sifts start heard f r e =
        majority n faulty q w Q (λ i. means meaning (meaning r) (heard i)) (λ i. means meaning (meaning r) (start i))
        (leads_backed meaning n q heard r e) (λ i l s h. subst (λ o. means meaning (meaning r) o ≡ true) (f i l s) h)

    all_back : (v : ℕ) (values heard : ℕ → Option R) → Faithful heard values → Holding v values → q ≤ backing meaning n heard v
    all_back v values heard f h =
        all_honest n faulty q w Q (λ i. means meaning v (heard i))
        (λ i l s. let r = h i l s in
        let e : heard i ≡ Some r.0 = f i l s ∙ r.1 in
        subst (λ u. means meaning u (heard i) ≡ true) r.2 (means_some meaning (heard i) r.0 e))

    of_holding : (v : ℕ) (values heard : ℕ → Option R) → Faithful heard values → Holding v values → (r : R) → w ≤ backing meaning n heard (meaning r) → meaning r ≡ v
    of_holding v values heard f h r b =
        let s = weak_held values heard f (meaning r) b in
        let x = h s.0 s.1 s.2 in
        let e : s.3.0 ≡ x.0 = some_inj s.3.0 x.0 (values s.0) s.3.1 x.1 in
        sym s.3.2 ∙ ap meaning e ∙ x.2

    -- where all honest nodes hold v, the cell that has the quorum means v
    pub quorum_holds : (v : ℕ) (values heard : ℕ → Option R) → Faithful heard values → Holding v values →
        (r : R) × (leads meaning n q heard ≡ Some r) × (meaning r ≡ v)
    quorum_holds v values heard f h =
        let c = leads_has meaning n q heard v q_pos (all_back v values heard f h) in
        (c.0, c.1, of_holding v values heard f h c.0 (quorum_weak (meaning c.0) heard (leads_backed meaning n q heard c.0 c.1)))

    -- where all honest nodes have none, nothing has the weak quorum
    pub blank_held : (values heard : ℕ → Option R) → Faithful heard values → Blank values → or_else (leads meaning n q heard) (leads meaning n w heard) ≡ None
    blank_held values heard f h =
        elim (cases_option (or_else (leads meaning n q heard) (leads meaning n w heard))) [
          | inl e ↦ e
          | inr r ↦
              let s = weak_held values heard f (meaning r.0) (held_backed heard r.0 r.1) in
              absurd (some_none s.3.0 (values s.0) s.3.1 (h s.0 s.1 s.2))
        ]

    -- an honest node holds a reading of the meaning v
    abbrev Holder : (ℕ → Option R) → ℕ → Type 0
    Holder values v = (i : ℕ) × (i < n) × (faulty i ≡ false) × ((r : R) × (values i ≡ Some r) × (meaning r ≡ v))

    -- two meanings that honest nodes hold after the poll are one
    one_held : (start values : ℕ → Option R) → Sifted start values → (v u : ℕ) → Holder values v → Holder values u → v ≡ u
    one_held start values sift v u x y =
        sym x.3.2
        ∙ one_meaning start (meaning x.3.0) (meaning y.3.0) (sift x.0 x.1 x.2 x.3.0 x.3.1) (sift y.0 y.1 y.2 y.3.0 y.3.1)
        ∙ y.3.2

    -- the echo: a cell that has the quorum at one node is held, in meaning, at each
    pub echo_holds : (start values heard heard' : ℕ → Option R) → Faithful heard values → Faithful heard' values → Sifted start values →
        (r : R) → leads meaning n q heard ≡ Some r →
        (r' : R) × (or_else (leads meaning n q heard') (leads meaning n w heard') ≡ Some r') × (meaning r' ≡ meaning r)
    echo_holds start values heard heard' f f' sift r e =
        let b = leads_backed meaning n q heard r e in
        let k = carried n faulty q w Q (λ i. means meaning (meaning r) (heard i)) (λ i. means meaning (meaning r) (heard' i)) b
        (λ i l s h. subst (λ o. means meaning (meaning r) o ≡ true) (f i l s ∙ sym (f' i l s)) h) in
        let c = leads_has meaning n w heard' (meaning r) w_pos k in
        let d = or_has (leads meaning n q heard') (leads meaning n w heard') c.0 c.1 in (
          d.0,
          d.1,
          one_held start values sift (meaning d.0) (meaning r) (weak_held values heard' f' (meaning d.0) (held_backed heard' d.0 d.1))
              (weak_held values heard f (meaning r) (quorum_weak (meaning r) heard b)),
        )

    -- and a majority began with it
    pub echo_majority : (start values heard : ℕ → Option R) → Faithful heard values → Sifted start values → (r : R) → leads meaning n q heard ≡ Some r → Majority start (meaning r)
    echo_majority start values heard f sift r e =
        let y = weak_held values heard f (meaning r) (quorum_weak (meaning r) heard (leads_backed meaning n q heard r e)) in
        subst (λ u. Majority start u) y.3.2 (sift y.0 y.1 y.2 y.3.0 y.3.1)
