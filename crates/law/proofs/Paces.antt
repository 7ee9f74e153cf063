-- Two runs of one script: as long as both are over or neither is, they accept the same calls and hold the same marks.
use Rattle.std.proofs.Common.{◌≡◌, ℕ, ◌+◌, ◌*◌, ◌/◌, ◌%◌, ◌<◌, ◌≤◌, Bool, true, false, cond, not, ◌||◌, eqb, ltb, leb, ◌≢◌, ◌⊎◌, List, length, get_or, set, Some, None, Option, sym, refl, ap, ◌∙◌, subst, ap₂, inl, inr, mod-lt, div-lt_iff_lt-mul, arith, get_or-set_other, get_or-set_same}
use lib.Arith.{digits_lt}
use Rattle.std.proofs.lemmas.Bool.{cases_Bool, cases_eq, or_parts, leb-false, eqb-true}
use Rattle.refusal.specs.declared.Refusal.{Refusal}
use Rattle.refusal.specs.Refusals.{refuse}
use Rattle.closing.specs.Counting.{mark_of}
use Rattle.closing.specs.Closings.{sends_cells}
use Rattle.board.specs.declared.states.Node.{Node}
use Rattle.board.specs.Tables.{no_node, node_at, faulty_at, final_at, mark_place}
use Rattle.hearing.specs.Closes.{heard_cell, heard_mark}
use Rattle.board.specs.Sends.{is_word}
use Rattle.agreement.specs.Closes.{next_phase, next_round}
use Rattle.agreement.specs.Calls.{is_over, send_checks, with_final}
use Rattle.law.specs.declared.calls.Call.{Call}
use Rattle.law.specs.declared.calls.Call.TheVariants as call
use Rattle.law.specs.Runs.{Tosses, World, refusal, effect, after}
use Rattle.board.specs.Setups.{if_accepted}
use Rattle.law.specs.Law.{Plain}
use Rattle.board.proofs.Boards.{written_at}
use Rattle.law.proofs.Worlds.{Fits, item_of, closed_world, closed_finals, effect_quiet}
use Rattle.law.proofs.Tossing.{Alike}

-- What is the same in two worlds whatever the items are: the step, the marks, the final pairs, and what was sent under a mark of 1.
pub record Pace {R : Type 0} (n m : ℕ) (a b : World R) : Type 0 where
  pub phase : a.state.phase ≡ b.state.phase
  pub round : a.state.round ≡ b.state.round
  pub marks : (k : ℕ) → k < n * n * m → get_or a.marks k 0 ≡ get_or b.marks k 0
  pub sent : (k : ℕ) → k < n * n * m → get_or a.marks k 0 ≡ 1 → get_or a.sent k None ≡ get_or b.sent k None
  pub finals : (i j : ℕ) → i < n → j < n → final_at a.state.table i j ≡ final_at b.state.table i j

-- one check of two chains
refuse_on : (x y : Bool) (e : Refusal) (p q : Option Refusal) → x ≡ y → (y ≡ false → p ≡ q) → refuse x e p ≡ refuse y e q
refuse_on x y e p q h k = grind arith

-- a write at one place of two lists that agree below N
set_alike : {X : Type 0} (xs ys : List X) (p k : ℕ) (v d : X) (N : ℕ) → N ≤ length xs → N ≤ length ys → k < N → (k ≢ p → get_or xs k d ≡ get_or ys k d) →
    get_or (set xs p v) k d ≡ get_or (set ys p v) k d
set_alike xs ys p k v d N hx hy l h = grind (arith, get_or-set_same, get_or-set_other)

cond_same : {X : Type 0} (x y : Bool) (s t s' t' : X) → x ≡ y → (x ≡ true → s ≡ s') → (x ≡ false → t ≡ t') → cond x s t ≡ cond y s' t'
cond_same x y s t s' t' e h k = grind arith

mark_not_one : (b : Bool) → mark_of b ≡ 1 → ⊥
mark_not_one b e = grind arith

cond_one : (b : Bool) (x : ℕ) → cond b x 0 ≡ 1 → x ≡ 1
cond_one b x e = grind arith

module _ {R : Type 0} (meaning : R → ℕ) (n m : ℕ) (faulty : ℕ → Bool) (a b : World R) (ga : Fits n m faulty a) (gb : Fits n m faulty b) (w : Pace n m a b) where
  -- a place is the same in both
  same_place : (i j c : ℕ) → mark_place a.state.table i j c ≡ mark_place b.state.table i j c
  same_place i j c = ap₂ (λ u v. (i * u + j) * v + c) (ga.n_is ∙ sym gb.n_is) (ga.m_is ∙ sym gb.m_is)

  place_below : (i j c : ℕ) → i < n → j < n → c < m → mark_place a.state.table i j c < n * n * m
  place_below i j c li lj lc =
      subst (λ k. k < n * n * m) (sym (ap₂ (λ u v. (i * u + j) * v + c) ga.n_is ga.m_is)) (digits_lt (digits_lt li lj) lc)

  same_mark : (i j c : ℕ) → i < n → j < n → c < m → get_or a.marks (mark_place a.state.table i j c) 0 ≡ get_or b.marks (mark_place b.state.table i j c) 0
  same_mark i j c li lj lc =
      w.marks (mark_place a.state.table i j c) (place_below i j c li lj lc) ∙ ap (λ k. get_or b.marks k 0) (same_place i j c)

  same_faulty : (i : ℕ) → faulty_at a.state.table i ≡ faulty_at b.state.table i
  same_faulty i = ga.faulty_is i ∙ sym (gb.faulty_is i)

  nodes_in : (i j : ℕ) → (leb b.state.table.n i || leb b.state.table.n j) ≡ false → (i < n) × (j < n)
  nodes_in i j e =
      let p = or_parts (leb b.state.table.n i) (leb b.state.table.n j) e in
      (subst (λ k. i < k) gb.n_is (leb-false b.state.table.n i p.0), subst (λ k. j < k) gb.n_is (leb-false b.state.table.n j p.1))

  same_nodes : (i j : ℕ) → (leb a.state.table.n i || leb a.state.table.n j) ≡ (leb b.state.table.n i || leb b.state.table.n j)
  same_nodes i j = ap (λ k. leb k i || leb k j) (ga.n_is ∙ sym gb.n_is)

  same_items : (c : ℕ) → leb a.state.table.m c ≡ leb b.state.table.m c
  same_items c = ap (λ k. leb k c) (ga.m_is ∙ sym gb.m_is)

  module _ (h : is_over a.state ≡ is_over b.state) where
    checks_same : (x y : Bool) (i j c : ℕ) → x ≡ y → send_checks a.state a.marks x i j c ≡ send_checks b.state b.marks y i j c
    checks_same x y i j c e =
        refuse_on _ _ _ _ _ (same_nodes i j) (λ nn.
        refuse_on _ _ _ _ _ (same_items c) (λ mm.
        refuse_on _ _ _ _ _ (ap not (same_faulty i)) (λ _.
        refuse_on _ _ _ _ _ (same_faulty j) (λ _.
        refuse_on _ _ _ _ _ e (λ _.
        let l = nodes_in i j nn in
        let lc : c < m = subst (λ k. c < k) gb.m_is (leb-false b.state.table.m c mm) in
        refuse_on _ _ _ _ _
        (ap₂ ◌||◌ (ap₂ is_word (ap sends_cells w.phase) (same_mark i j c l.0 l.1 lc)) (w.finals i j l.0 l.1)) (λ _.
        refuse_on _ _ _ _ _ h (λ _. refl)))))))

    -- both refuse a call, or both accept it
    refusal_same : (fits : Bool) (k : Call R) → (refusal a fits k ≡ refusal b fits k) ⊎ ((p : ℕ) × (k ≡ call.Undecided p))
    refusal_same fits (call.SendValue i j c x) = inl (refuse_on (not fits) (not fits) _ _ _ refl (λ _. checks_same _ _ i j c (ap (λ p. not (sends_cells p)) w.phase)))
    refusal_same fits (call.SendBit i j c x) = inl (refuse_on (not fits) (not fits) _ _ _ refl (λ _. checks_same _ _ i j c (ap (λ p. sends_cells p || ltb 1 x) w.phase)))
    refusal_same fits (call.SendFinal i j) = inl (
        refuse_on _ _ _ _ _ (same_nodes i j) (λ nn.
        refuse_on _ _ _ _ _ (ap not (same_faulty i)) (λ _.
        refuse_on _ _ _ _ _ (same_faulty j) (λ _.
        refuse_on _ _ _ _ _ (ap sends_cells w.phase) (λ _.
        let l = nodes_in i j nn in
        refuse_on _ _ _ _ _ (w.finals i j l.0 l.1) (λ _.
        refuse_on _ _ _ _ _ h (λ _. refl)))))))
    refusal_same fits call.Close = inl (refuse_on (not fits) (not fits) _ _ _ refl (λ _. refuse_on _ _ _ _ _ h (λ _. refl)))
    refusal_same fits (call.Decision i c) = inl (
        refuse_on (not fits) (not fits) _ _ _ refl (λ _.
        refuse_on _ _ _ _ _ (ap (λ k. leb k i) (ga.n_is ∙ sym gb.n_is)) (λ _.
        refuse_on _ _ _ _ _ (same_items c) (λ _.
        refuse_on _ _ _ _ _ (same_faulty i) (λ _. refl)))))
    refusal_same fits (call.Undecided p) = inr (p, refl)

  value_sent : (f g : Tosses) (i j c : ℕ) (x : Option R) → Pace n m (effect meaning f a (call.SendValue i j c x)) (effect meaning g b (call.SendValue i j c x))
  value_sent f g i j c x =
      let p = mark_place a.state.table i j c in
      let ma = ga.marks in
      let mb = gb.marks in
      let sa = ga.sent in
      let sb = gb.sent in
      record {
        phase = w.phase;
        round = w.round;
        marks = λ k l. set_alike a.marks b.marks p k 1 0 (n * n * m) ma mb l (λ _. w.marks k l) ∙ ap (λ q. get_or (set b.marks q 1) k 0) (same_place i j c);
        sent = λ k l e.
            set_alike a.sent b.sent p k x None (n * n * m) sa sb l (λ ne. w.sent k l (sym (get_or-set_other a.marks p k 1 0 ne) ∙ e))
            ∙ ap (λ q. get_or (set b.sent q x) k None) (same_place i j c);
        finals = w.finals;
      }

  bit_sent : (f g : Tosses) (i j c d : ℕ) → Pace n m (effect meaning f a (call.SendBit i j c d)) (effect meaning g b (call.SendBit i j c d))
  bit_sent f g i j c d =
      let p = mark_place a.state.table i j c in
      let ma = ga.marks in
      let mb = gb.marks in
      record {
        phase = w.phase;
        round = w.round;
        marks = λ k l. set_alike a.marks b.marks p k (mark_of (eqb d 1)) 0 (n * n * m) ma mb l (λ _. w.marks k l) ∙ ap (λ q. get_or (set b.marks q (mark_of (eqb d 1))) k 0) (same_place i j c);
        sent = λ k l e. elim (cases_eq k p) [
          | inl q ↦
              let lp : p < length a.marks = omega arith in
              absurd (mark_not_one (eqb d 1) (sym (get_or-set_same a.marks p (mark_of (eqb d 1)) 0 lp) ∙ ap (λ u. get_or (set a.marks p (mark_of (eqb d 1))) u 0) (sym q) ∙ e))
          | inr ne ↦ w.sent k l (sym (get_or-set_other a.marks p k (mark_of (eqb d 1)) 0 ne) ∙ e)
        ];
        finals = w.finals;
      }

  final_same : (i j k l : ℕ) → k < n → l < n →
      get_or (get_or (set a.state.table.nodes i (with_final j (node_at a.state.table i))) k no_node).finals l false
      ≡ get_or (get_or (set b.state.table.nodes i (with_final j (node_at b.state.table i))) k no_node).finals l false
  final_same i j k l lk ll =
      elim (cases_eq k i) [
        | inl e ↦
            let na = ga.nodes in
            let nb = gb.nodes in
            ap (λ u. get_or (get_or (set a.state.table.nodes i (with_final j (node_at a.state.table i))) u no_node).finals l false) e
            ∙ ap (λ (x : Node). get_or x.finals l false) (get_or-set_same a.state.table.nodes i (with_final j (node_at a.state.table i)) no_node (omega arith))
            ∙ set_alike (node_at a.state.table i).finals (node_at b.state.table i).finals j l true false n (ga.finals i (omega arith)) (gb.finals i (omega arith)) ll
            (λ _. w.finals i l (omega arith) ll)
            ∙ sym (ap (λ (x : Node). get_or x.finals l false) (get_or-set_same b.state.table.nodes i (with_final j (node_at b.state.table i)) no_node (omega arith)))
            ∙ sym (ap (λ u. get_or (get_or (set b.state.table.nodes i (with_final j (node_at b.state.table i))) u no_node).finals l false) e)
        | inr e ↦
            ap (λ (x : Node). get_or x.finals l false) (get_or-set_other a.state.table.nodes i k (with_final j (node_at a.state.table i)) no_node e)
            ∙ w.finals k l lk ll
            ∙ sym (ap (λ (x : Node). get_or x.finals l false) (get_or-set_other b.state.table.nodes i k (with_final j (node_at b.state.table i)) no_node e))
      ]

  final_sent : (f g : Tosses) (i j : ℕ) → Pace n m (effect meaning f a (call.SendFinal i j)) (effect meaning g b (call.SendFinal i j))
  final_sent f g i j = record { phase = w.phase; round = w.round; marks = w.marks; sent = w.sent; finals = λ k l lk ll. final_same i j k l lk ll }

-- the mark at a place after a close
closed_mark : {R : Type 0} (meaning : R → ℕ) (n m : ℕ) (faulty : ℕ → Bool) (f : Tosses) (a : World R) → Fits n m faulty a → (k : ℕ) → k < n * n * m →
    get_or (closed_world meaning f a).marks k 0 ≡ cond (final_at a.state.table (k / m / n) (k / m % n)) (get_or a.marks k 0) 0
closed_mark meaning n m faulty f a g k l =
    let h = g.marks in
    written_at (a.state.table.n * a.state.table.n * a.state.table.m)
    (λ k. cond (final_at a.state.table (k / a.state.table.m / a.state.table.n) (k / a.state.table.m % a.state.table.n)) (get_or a.marks k 0) 0) a.marks k 0
    (subst (λ u. k < u) (sym (ap₂ (λ u v. u * u * v) g.n_is g.m_is)) l) (omega arith)
    ∙ ap₂ (λ u v. cond (final_at a.state.table (k / v / u) (k / v % u)) (get_or a.marks k 0) 0) g.n_is g.m_is

module _ {R : Type 0} (meaning : R → ℕ) (n m : ℕ) (faulty : ℕ → Bool) (pn : 0 < n) (pm : 0 < m) (a b : World R) (ga : Fits n m faulty a) (gb : Fits n m faulty b) (w : Pace n m a b) where
  pub closed_pace : (f g : Tosses) → Pace n m (closed_world meaning f a) (closed_world meaning g b)
  closed_pace f g = record {
    phase = ap next_phase w.phase;
    round = ap₂ next_round w.phase w.round;
    marks = λ k l.
        let u : k / m < n * n = (div-lt_iff_lt-mul {k = m} pm).1 l in
        let i : k / m / n < n = (div-lt_iff_lt-mul {k = n} pn).1 u in
        closed_mark meaning n m faulty f a ga k l
        ∙ ap₂ (λ e x. cond e x 0) (w.finals (k / m / n) (k / m % n) i (mod-lt (k / m) pn)) (w.marks k l)
        ∙ sym (closed_mark meaning n m faulty g b gb k l);
    sent = λ k l e. w.sent k l (cond_one (final_at a.state.table (k / m / n) (k / m % n)) (get_or a.marks k 0) (sym (closed_mark meaning n m faulty f a ga k l) ∙ e));
    finals = λ i j li lj.
        ap (λ xs. get_or xs j false) (closed_finals meaning f a i) ∙ w.finals i j li lj ∙ sym (ap (λ xs. get_or xs j false) (closed_finals meaning g b i));
  }

  -- What one call does in two runs: it leaves an item as it was in both, or closes both.
  pub data Both (f g : Tosses) (c : ℕ) (a' b' : World R) : Type 0 where
    still : Pace n m a' b' → item_of a' c ≡ item_of a c → item_of b' c ≡ item_of b c → Both f g c a' b'
    both : a' ≡ closed_world meaning f a → b' ≡ closed_world meaning g b → Both f g c a' b'

  quiet_both : (f g : Tosses) (c : ℕ) (k : Call R) → Pace n m (effect meaning f a k) (effect meaning g b k) → (k ≡ call.Close → ⊥) → Both f g c (effect meaning f a k) (effect meaning g b k)
  quiet_both f g c k p ne = elim (effect_quiet meaning a f k c) [
    | inl e ↦ elim (effect_quiet meaning b g k c) [ inl d ↦ still p e d | inr z ↦ absurd (ne z) ]
    | inr z ↦ absurd (ne z)
  ]

  effect_both : (f g : Tosses) (c : ℕ) (k : Call R) → Both f g c (effect meaning f a k) (effect meaning g b k)
  effect_both f g c (call.SendValue i j d x) = quiet_both f g c (call.SendValue i j d x) (value_sent meaning n m faulty a b ga gb w f g i j d x) (λ e. cc)
  effect_both f g c (call.SendBit i j d x) = quiet_both f g c (call.SendBit i j d x) (bit_sent meaning n m faulty a b ga gb w f g i j d x) (λ e. cc)
  effect_both f g c (call.SendFinal i j) = quiet_both f g c (call.SendFinal i j) (final_sent meaning n m faulty a b ga gb w f g i j) (λ e. cc)
  effect_both f g c call.Close = both refl refl
  effect_both f g c (call.Decision i d) = still w refl refl
  effect_both f g c (call.Undecided p) = still w refl refl

  if_same : (o : Option Refusal) (s : World R) → if_accepted o s s ≡ s
  if_same None s = refl
  if_same (Some e) s = refl

  pub after_both : is_over a.state ≡ is_over b.state → (f g : Tosses) (c : ℕ) (p : Plain R) →
      Both f g c (after meaning a (record { call = p.call; tosses = f; fits = p.fits })) (after meaning b (record { call = p.call; tosses = g; fits = p.fits }))
  unfolding after
  after_both h f g c p = elim (refusal_same meaning n m faulty a b ga gb w h p.fits p.call) [
    | inl e ↦ subst (λ o. Both f g c (if_accepted o (effect meaning f a p.call) a) (if_accepted (refusal b p.fits p.call) (effect meaning g b p.call) b)) (sym e) (go (refusal b p.fits p.call))
    | inr e ↦ idle p.call e.0 e.1
  ]
    where
      go : (o : Option Refusal) → Both f g c (if_accepted o (effect meaning f a p.call) a) (if_accepted o (effect meaning g b p.call) b)
      go None = effect_both f g c p.call
      go (Some e) = still w refl refl

      idle : (k : Call R) (q : ℕ) → k ≡ call.Undecided q → Both f g c (if_accepted (refusal a p.fits k) (effect meaning f a k) a) (if_accepted (refusal b p.fits k) (effect meaning g b k) b)
      idle k q e = subst (λ u. Both f g c (if_accepted (refusal a p.fits u) (effect meaning f a u) a) (if_accepted (refusal b p.fits u) (effect meaning g b u) b)) (sym e)
          (subst (λ x. Both f g c x (if_accepted (refusal b p.fits (call.Undecided q)) b b)) (sym (if_same (refusal a p.fits (call.Undecided q)) a))
          (subst (λ y. Both f g c a y) (sym (if_same (refusal b p.fits (call.Undecided q)) b)) (still w refl refl)))

  -- what the nodes hear of an item that is alike
  module _ (c : ℕ) (lc : c < m) (al : Alike meaning n faulty (item_of a c) (item_of b c)) where
    sent_same : (x y : ℕ) (s t : Option R) → x ≡ y → (x ≡ 1 → s ≡ t) → cond (eqb x 1) s None ≡ cond (eqb y 1) t None
    sent_same x y s t e h = elim (cases_Bool (eqb x 1)) [
      | inl z ↦ (λ i. cond (eqb (e i) 1) (h (eqb-true x 1 z) i) None)
      | inr z ↦ let z' : eqb y 1 ≡ false = ap (λ k. eqb k 1) (sym e) ∙ z in rw (z, z')
    ]

    pub cells_same : (j i : ℕ) → j < n → i < n →
        heard_cell a.state.table a.values a.sent a.marks j c i ≡ heard_cell b.state.table b.values b.sent b.marks j c i
    cells_same j i lj li =
        cond_same _ _ _ _ _ _ (same_faulty meaning n m faulty a b ga gb w i)
        (λ _. sent_same _ _ _ _ (same_mark meaning n m faulty a b ga gb w i j c li lj lc) (λ one.
        w.sent (mark_place a.state.table i j c) (place_below meaning n m faulty a b ga gb w i j c li lj lc) one
        ∙ ap (λ k. get_or b.sent k None) (same_place meaning n m faulty a b ga gb w i j c)))
        (λ e. al.value i li (sym (ga.faulty_is i) ∙ e))

    pub marks_same : (j i : ℕ) → j < n → i < n → heard_mark a.state.table a.marks j c i ≡ heard_mark b.state.table b.marks j c i
    marks_same j i lj li =
        cond_same _ _ _ _ _ _ (same_faulty meaning n m faulty a b ga gb w i)
        (λ _. same_mark meaning n m faulty a b ga gb w i j c li lj lc)
        (λ e. ap mark_of (al.bit i li (sym (ga.faulty_is i) ∙ e)))
