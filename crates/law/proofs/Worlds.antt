-- An instance with its boards, read by item: what each call leaves as it was, and that a close closes every item.
use Rattle.std.proofs.Common.{◌≡◌, ℕ, ◌+◌, ◌*◌, ◌/◌, ◌%◌, ◌<◌, ◌≤◌, Bool, true, false, cond, eqb, ◌⊎◌, List, [], ◌∷◌, length, get_or, Some, None, Option, sym, refl, ap, ◌∙◌, subst, ap₂, inl, inr, arith, length-set}
use lib.Arith.{digits_lt, digits_div, digits_mod}
use Rattle.std.proofs.lemmas.Bool.{cond-false}
use Rattle.refusal.specs.declared.Refusal.{Refusal}
use Rattle.closing.specs.Counting.{quorum_of, weak_quorum_of, mark_of}
use Rattle.board.specs.declared.states.Node.{Node}
use Rattle.board.specs.Tables.{written, no_node, node_at, faulty_at, bit_at, decided_at, value_at, mark_place}
use Rattle.hearing.specs.Closes.{heard_cell, heard_mark, new_bit, new_decided}
use Rattle.agreement.specs.Closes.{value_after, node_after, closed_at}
use Rattle.agreement.specs.Calls.{with_final}
use Rattle.law.specs.declared.calls.Call.{Call}
use Rattle.law.specs.declared.calls.Call.TheVariants as call
use Rattle.law.specs.Runs.{Tosses, World, Move, refusal, effect, after, run}
use Rattle.board.specs.Setups.{if_accepted}
use Rattle.board.proofs.Boards.{length_written, written_at}
use Rattle.law.proofs.Boards.{set_keeps, written_keeps}
use Rattle.law.proofs.Items.{Item, Closing, Timely, timely_next}

-- item c of a world
abbrev pub item_of : {R : Type 0} → World R → ℕ → Item R
item_of w c = record {
  phase = w.state.phase;
  round = w.state.round;
  value = λ i. value_at w.state.table w.values i c;
  bit = λ i. bit_at w.state.table i c;
  decided = λ i. decided_at w.state.table i c;
}

-- the world after a close
abbrev pub closed_world : {R : Type 0} → (R → ℕ) → Tosses → World R → World R
closed_world meaning f w = effect meaning f w call.Close

-- The table and the boards are of the sizes that n nodes and m items need, and these nodes are faulty.
pub record Fits {R : Type 0} (n m : ℕ) (faulty : ℕ → Bool) (w : World R) : Type 0 where
  pub n_is : w.state.table.n ≡ n
  pub m_is : w.state.table.m ≡ m
  pub nodes : n ≤ length w.state.table.nodes
  pub faulty_is : (i : ℕ) → faulty_at w.state.table i ≡ faulty i
  pub bits : (i : ℕ) → i < n → m ≤ length (node_at w.state.table i).bits
  pub decided : (i : ℕ) → i < n → m ≤ length (node_at w.state.table i).decided
  pub finals : (i : ℕ) → i < n → n ≤ length (node_at w.state.table i).finals
  pub values : n * m ≤ length w.values
  pub sent : n * n * m ≤ length w.sent
  pub marks : n * n * m ≤ length w.marks
  pub timely : Timely w.state.phase w.state.round

if_either : {X : Type 0} (P : X → Type 0) (o : Option Refusal) (new old : X) → P new → P old → P (if_accepted o new old)
if_either P None new old a b = a
if_either P (Some e) new old a b = b

cond_keeps : {X Y : Type 0} (φ : X → Y) (b : Bool) (x y : X) (v : Y) → φ x ≡ v → φ y ≡ v → φ (cond b x y) ≡ v
cond_keeps φ true x y v h k = h
cond_keeps φ false x y v h k = k

module _ {R : Type 0} (meaning : R → ℕ) where
  module _ (f : Tosses) (w : World R) where
    -- what of its nodes a close leaves as it was
    node_keeps : {Y : Type 0} (φ : Node → Y) → ((i : ℕ) → φ (node_after meaning f w.state w.values w.sent w.marks i) ≡ φ (node_at w.state.table i)) →
        (i : ℕ) → φ (node_at (closed_world meaning f w).state.table i) ≡ φ (node_at w.state.table i)
    node_keeps φ h i = written_keeps φ w.state.table.n (node_after meaning f w.state w.values w.sent w.marks) w.state.table.nodes no_node h i

    pub closed_faulty : (i : ℕ) → faulty_at (closed_world meaning f w).state.table i ≡ faulty_at w.state.table i
    closed_faulty = node_keeps (λ (x : Node). x.faulty) (λ i. cond_keeps (λ (x : Node). x.faulty) (faulty_at w.state.table i) _ _ _ refl refl)

    closed_bits : (i : ℕ) → length (node_at (closed_world meaning f w).state.table i).bits ≡ length (node_at w.state.table i).bits
    closed_bits = node_keeps (λ (x : Node). length x.bits) (λ i. cond_keeps (λ (x : Node). length x.bits) (faulty_at w.state.table i) _ _ _ refl (length_written w.state.table.m _ _))

    closed_decideds : (i : ℕ) → length (node_at (closed_world meaning f w).state.table i).decided ≡ length (node_at w.state.table i).decided
    closed_decideds = node_keeps (λ (x : Node). length x.decided) (λ i. cond_keeps (λ (x : Node). length x.decided) (faulty_at w.state.table i) _ _ _ refl (length_written w.state.table.m _ _))

    pub closed_finals : (i : ℕ) → (node_at (closed_world meaning f w).state.table i).finals ≡ (node_at w.state.table i).finals
    closed_finals = node_keeps (λ (x : Node). x.finals) (λ i. cond_keeps (λ (x : Node). x.finals) (faulty_at w.state.table i) _ _ _ refl refl)

  module _ (n m : ℕ) (faulty : ℕ → Bool) where
    fits_final : (w : World R) (f : Tosses) (i j : ℕ) → Fits n m faulty w → Fits n m faulty (effect meaning f w (call.SendFinal i j))
    fits_final w f i j g = record {
      n_is = g.n_is;
      m_is = g.m_is;
      nodes = subst (λ k. n ≤ k) (sym (length-set w.state.table.nodes i (with_final j (node_at w.state.table i)))) g.nodes;
      faulty_is = λ k. set_keeps (λ (x : Node). x.faulty) w.state.table.nodes i k (with_final j (node_at w.state.table i)) no_node refl ∙ g.faulty_is k;
      bits = λ k l. subst (λ u. m ≤ u) (sym (set_keeps (λ (x : Node). length x.bits) w.state.table.nodes i k (with_final j (node_at w.state.table i)) no_node refl)) (g.bits k l);
      decided = λ k l. subst (λ u. m ≤ u) (sym (set_keeps (λ (x : Node). length x.decided) w.state.table.nodes i k (with_final j (node_at w.state.table i)) no_node refl)) (g.decided k l);
      finals = λ k l. subst (λ u. n ≤ u)
          (sym (set_keeps (λ (x : Node). length x.finals) w.state.table.nodes i k (with_final j (node_at w.state.table i)) no_node (length-set (node_at w.state.table i).finals j true)))
          (g.finals k l);
      values = g.values;
      sent = g.sent;
      marks = g.marks;
      timely = g.timely;
    }

    fits_close : (w : World R) (f : Tosses) → Fits n m faulty w → Fits n m faulty (closed_world meaning f w)
    fits_close w f g = record {
      n_is = g.n_is;
      m_is = g.m_is;
      nodes = subst (λ k. n ≤ k) (sym (length_written w.state.table.n _ w.state.table.nodes)) g.nodes;
      faulty_is = λ k. closed_faulty f w k ∙ g.faulty_is k;
      bits = λ k l. subst (λ u. m ≤ u) (sym (closed_bits f w k)) (g.bits k l);
      decided = λ k l. subst (λ u. m ≤ u) (sym (closed_decideds f w k)) (g.decided k l);
      finals = λ k l. subst (λ u. n ≤ length u) (sym (closed_finals f w k)) (g.finals k l);
      values = subst (λ k. n * m ≤ k) (sym (length_written (w.state.table.n * w.state.table.m) _ w.values)) g.values;
      sent = g.sent;
      marks = subst (λ k. n * n * m ≤ k) (sym (length_written (w.state.table.n * w.state.table.n * w.state.table.m) _ w.marks)) g.marks;
      timely = timely_next w.state.phase w.state.round g.timely;
    }

    pub fits_effect : (w : World R) (f : Tosses) (k : Call R) → Fits n m faulty w → Fits n m faulty (effect meaning f w k)
    fits_effect w f (call.SendValue i j c x) g = record {
      n_is = g.n_is;
      m_is = g.m_is;
      nodes = g.nodes;
      faulty_is = g.faulty_is;
      bits = g.bits;
      decided = g.decided;
      finals = g.finals;
      values = g.values;
      sent = subst (λ k. n * n * m ≤ k) (sym (length-set w.sent (mark_place w.state.table i j c) x)) g.sent;
      marks = subst (λ k. n * n * m ≤ k) (sym (length-set w.marks (mark_place w.state.table i j c) 1)) g.marks;
      timely = g.timely;
    }
    fits_effect w f (call.SendBit i j c b) g = record {
      n_is = g.n_is;
      m_is = g.m_is;
      nodes = g.nodes;
      faulty_is = g.faulty_is;
      bits = g.bits;
      decided = g.decided;
      finals = g.finals;
      values = g.values;
      sent = g.sent;
      marks = subst (λ k. n * n * m ≤ k) (sym (length-set w.marks (mark_place w.state.table i j c) (mark_of (eqb b 1)))) g.marks;
      timely = g.timely;
    }
    fits_effect w f (call.SendFinal i j) g = fits_final w f i j g
    fits_effect w f call.Close g = fits_close w f g
    fits_effect w f (call.Decision i c) g = g
    fits_effect w f (call.Undecided k) g = g

    pub fits_after : (w : World R) (v : Move R) → Fits n m faulty w → Fits n m faulty (after meaning w v)
    unfolding after
    fits_after w v g = if_either (Fits n m faulty) (refusal w v.fits v.call) _ _ (fits_effect w v.tosses v.call g) g

    pub fits_run : (w : World R) (vs : List (Move R)) → Fits n m faulty w → Fits n m faulty (run meaning w vs)
    unfolding run
    fits_run w [] g = g
    fits_run w (v ∷ vs) g = fits_run (after meaning w v) vs (fits_after w v g)

  -- no call but a close touches an item
  final_item : (w : World R) (f : Tosses) (i j c : ℕ) → item_of (effect meaning f w (call.SendFinal i j)) c ≡ item_of w c
  final_item w f i j c = λ z. record {
    phase = w.state.phase;
    round = w.state.round;
    value = λ k. value_at w.state.table w.values k c;
    bit = λ k. set_keeps (λ (x : Node). get_or x.bits c false) w.state.table.nodes i k (with_final j (node_at w.state.table i)) no_node refl z;
    decided = λ k. set_keeps (λ (x : Node). get_or x.decided c false) w.state.table.nodes i k (with_final j (node_at w.state.table i)) no_node refl z;
  }

  pub effect_quiet : (w : World R) (f : Tosses) (k : Call R) (c : ℕ) → (item_of (effect meaning f w k) c ≡ item_of w c) ⊎ (k ≡ call.Close)
  effect_quiet w f (call.SendValue i j d x) c = inl refl
  effect_quiet w f (call.SendBit i j d b) c = inl refl
  effect_quiet w f (call.SendFinal i j) c = inl (final_item w f i j c)
  effect_quiet w f call.Close c = inr refl
  effect_quiet w f (call.Decision i d) c = inl refl
  effect_quiet w f (call.Undecided k) c = inl refl

  -- each call leaves an item as it was, or closes a step
  pub after_cases : (w : World R) (v : Move R) (c : ℕ) → (item_of (after meaning w v) c ≡ item_of w c) ⊎ (after meaning w v ≡ closed_world meaning v.tosses w)
  unfolding after
  after_cases w v c = go (refusal w v.fits v.call) (effect_quiet w v.tosses v.call c)
    where
      go : (o : Option Refusal) → (item_of (effect meaning v.tosses w v.call) c ≡ item_of w c) ⊎ (v.call ≡ call.Close) →
          (item_of (if_accepted o (effect meaning v.tosses w v.call) w) c ≡ item_of w c) ⊎ (if_accepted o (effect meaning v.tosses w v.call) w ≡ closed_world meaning v.tosses w)
      go (Some e) h = inl refl
      go None (inl h) = inl h
      go None (inr h) = inr (ap (effect meaning v.tosses w) h)

  -- a closing of item c in which the nodes hear what they hear in this world
  abbrev pub HeardClosing : ℕ → (ℕ → Bool) → Tosses → World R → ℕ → Type 0
  HeardClosing n faulty f w c =
      (k : Closing meaning n faulty (quorum_of n) (weak_quorum_of n) c f (item_of w c) (item_of (closed_world meaning f w) c))
      × ((j i : ℕ) → k.cells j i ≡ heard_cell w.state.table w.values w.sent w.marks j c i)
      × ((j i : ℕ) → k.marks j i ≡ heard_mark w.state.table w.marks j c i)

  module _ (f : Tosses) (w : World R) (c : ℕ) (lc : c < w.state.table.m)
      (nodes : w.state.table.n ≤ length w.state.table.nodes)
      (bits : (i : ℕ) → i < w.state.table.n → w.state.table.m ≤ length (node_at w.state.table i).bits)
      (decideds : (i : ℕ) → i < w.state.table.n → w.state.table.m ≤ length (node_at w.state.table i).decided)
      (values : w.state.table.n * w.state.table.m ≤ length w.values) where
    closed_value : (j : ℕ) → j < w.state.table.n → value_at (closed_world meaning f w).state.table (closed_world meaning f w).values j c
        ≡ value_after meaning f w.state w.values w.sent w.marks j c
    closed_value j l =
        let p : j * w.state.table.m + c < w.state.table.n * w.state.table.m = digits_lt l lc in
        written_at (w.state.table.n * w.state.table.m)
        (λ k. value_after meaning f w.state w.values w.sent w.marks (k / w.state.table.m) (k % w.state.table.m)) w.values (j * w.state.table.m + c) None p (omega arith)
        ∙ ap₂ (value_after meaning f w.state w.values w.sent w.marks) (digits_div j lc) (digits_mod j lc)

    closed_node : (j : ℕ) → j < w.state.table.n → node_at (closed_world meaning f w).state.table j ≡ node_after meaning f w.state w.values w.sent w.marks j
    closed_node j l = written_at w.state.table.n (node_after meaning f w.state w.values w.sent w.marks) w.state.table.nodes j no_node l (omega arith)

    honest_node : (j : ℕ) → j < w.state.table.n → faulty_at w.state.table j ≡ false → node_at (closed_world meaning f w).state.table j ≡ record {
      faulty = faulty_at w.state.table j;
      bits = written w.state.table.m (λ c. new_bit (closed_at meaning f w.state w.values w.sent w.marks j c) (bit_at w.state.table j c)) (node_at w.state.table j).bits;
      decided = written w.state.table.m (λ c. new_decided (closed_at meaning f w.state w.values w.sent w.marks j c) (decided_at w.state.table j c)) (node_at w.state.table j).decided;
      finals = (node_at w.state.table j).finals;
    }
    honest_node j l s = closed_node j l ∙ cond-false (faulty_at w.state.table j) _ _ s

    close_own : HeardClosing w.state.table.n (faulty_at w.state.table) f w c
    close_own = (
      record {
        cells = λ j i. heard_cell w.state.table w.values w.sent w.marks j c i;
        marks = λ j i. heard_mark w.state.table w.marks j c i;
        cells_true = λ j i l s. cond-false (faulty_at w.state.table i) _ _ s;
        marks_true = λ j i l s. cond-false (faulty_at w.state.table i) _ _ s;
        phase = refl;
        round = refl;
        value = λ j l s. closed_value j l ∙ cond-false (faulty_at w.state.table j) _ _ s;
        bit = λ j l s. ap (λ (x : Node). get_or x.bits c false) (honest_node j l s)
            ∙ written_at w.state.table.m (λ c. new_bit (closed_at meaning f w.state w.values w.sent w.marks j c) (bit_at w.state.table j c)) (node_at w.state.table j).bits c false lc (omega (arith, bits j l));
        decided = λ j l s. ap (λ (x : Node). get_or x.decided c false) (honest_node j l s)
            ∙ written_at w.state.table.m (λ c. new_decided (closed_at meaning f w.state w.values w.sent w.marks j c) (decided_at w.state.table j c)) (node_at w.state.table j).decided c false lc (omega (arith, decideds j l));
      },
      (λ j i. refl),
      (λ j i. refl),
    )

  -- a close closes every item
  pub close_item : (n m : ℕ) (faulty : ℕ → Bool) (f : Tosses) (w : World R) (c : ℕ) → Fits n m faulty w → c < m → HeardClosing n faulty f w c
  close_item n m faulty f w c g lc =
      let en = g.n_is in
      let em = g.m_is in
      subst (λ k. HeardClosing k faulty f w c) en
      (subst (λ h. HeardClosing w.state.table.n h f w c) (λ z i. g.faulty_is i z)
      (close_own f w c (subst (λ k. c < k) (sym em) lc) (subst (λ k. k ≤ length w.state.table.nodes) (sym en) g.nodes)
      (λ i l. subst (λ k. k ≤ length (node_at w.state.table i).bits) (sym em) (g.bits i (subst (λ k. i < k) en l)))
      (λ i l. subst (λ k. k ≤ length (node_at w.state.table i).decided) (sym em) (g.decided i (subst (λ k. i < k) en l)))
      (subst (λ k. k ≤ length w.values) (ap₂ ◌*◌ (sym en) (sym em)) g.values)))

  -- what a close of the item keeps, a call keeps, and a run
  module _ (n m : ℕ) (faulty : ℕ → Bool) (c : ℕ) (lc : c < m) (P : Item R → Type 0)
      (closes : (f : Tosses) (x y : Item R) → Closing meaning n faulty (quorum_of n) (weak_quorum_of n) c f x y → P x → P y) where
    pub after_keeps : (w : World R) (v : Move R) → Fits n m faulty w → P (item_of w c) → P (item_of (after meaning w v) c)
    after_keeps w v g h = elim (after_cases w v c) [
      | inl e ↦ subst P (sym e) h
      | inr e ↦ subst (λ u. P (item_of u c)) (sym e) (closes v.tosses (item_of w c) (item_of (closed_world meaning v.tosses w) c) (close_item n m faulty v.tosses w c g lc).0 h)
    ]

    pub run_keeps : (w : World R) (vs : List (Move R)) → Fits n m faulty w → P (item_of w c) → P (item_of (run meaning w vs) c)
    unfolding run
    run_keeps w [] g h = h
    run_keeps w (v ∷ vs) g h = run_keeps (after meaning w v) vs (fits_after n m faulty w v g) (after_keeps w v g h)
