-- The setup: which nodes are faulty and what each began with, in the table and in the calls' answers.
use Rattle.std.proofs.Common.{◌≡◌, ℕ, zero, suc, ◌+◌, ◌*◌, ◌/◌, ◌%◌, ◌<◌, ◌≤◌, Bool, true, false, cond, not, ◌&&◌, ◌||◌, eqb, ◌≢◌, List, [], ◌∷◌, length, get_or, set, replicate, Some, None, Option, sym, refl, ap, ◌∙◌, subst, ap₂, inl, inr, arith, length-set, get_or-set_other, get_or-set_same, is_err}
use lib.Arith.{digits_lt, digits_div, digits_mod}
use Rattle.std.proofs.Math.Bool.{and-true, and-false, or-false}
use Rattle.std.proofs.lemmas.Bool.{both_ways, cases_Bool, eqb-true, eq-eqb, and_from, and_parts}
use Rattle.std.proofs.lemmas.List.{get_or-replicate, get_or_past}
use Rattle.refusal.specs.declared.Refusal.{Refusal}
use Rattle.refusal.specs.Refusals.{answered}
use Rattle.closing.specs.Counting.{quorum_of, weak_quorum_of}
use Rattle.board.specs.declared.states.Node.{Node}
use Rattle.board.specs.declared.states.Table.{Table}
use Rattle.board.specs.Tables.{new_node, no_node, node_at, faulty_at, decided_at, value_at, cell_place, with_node}
use Rattle.board.specs.Setups.{propose_refusal, if_accepted}
use Rattle.agreement.specs.Setups.{marked, mark_faulty_refusal}
use Rattle.law.specs.declared.calls.SetupCall.{SetupCall}
use Rattle.law.specs.declared.calls.SetupCall.TheVariants.{MarkFaulty, Propose}
use Rattle.law.specs.declared.calls.Told.{Told}
use Rattle.law.specs.declared.calls.Told.TheVariants.{Done}
use Rattle.law.specs.Runs.{SetupMove, Prepared, setup_refusal, setup_effect, setup_after, setup_answer, setup_run, setup_history}
use Rattle.law.specs.Law.{Sizes, Boards, start, open_world, setup_asked, is_faulty, marks_node, began, began_from, proposed, faulty_count}
use Rattle.law.proofs.Tallies.{tally, counted_nodes}
use Rattle.law.proofs.Quorums.{Quorum}
use Rattle.board.proofs.Boards.{length_written, written_at}
use Rattle.law.proofs.Boards.{set_keeps}
use Rattle.law.proofs.Worlds.{Fits, item_of}
use Rattle.law.proofs.Stages.{Stage, polling}

sum_step : (b : Bool) (x y z : ℕ) → x + y ≡ z → cond (not b) (suc x) x + cond b (suc y) y ≡ suc z
sum_step true x y z e = omega arith
sum_step false x y z e = omega arith

-- the honest and the faulty are all
pub tally_all : (n : ℕ) (p : ℕ → Bool) → tally n (λ i. not (p i)) + tally n p ≡ n
unfolding tally
tally_all zero p = refl
tally_all (suc n) p = sum_step (p n) _ _ n (tally_all n p)

-- with fewer than a third of the nodes faulty the two quorums serve
pub fair : (n : ℕ) (faulty : ℕ → Bool) → 3 * tally n faulty < n → Quorum n faulty (quorum_of n) (weak_quorum_of n)
fair n faulty h =
    let a = tally_all n faulty in
    record { enough = omega arith; cross = omega arith; half = omega arith }

-- The table and the values board are of the sizes that n nodes and m items need, and nothing is decided.
pub record Ready {R : Type 0} (n m : ℕ) (p : Prepared R) : Type 0 where
  pub n_is : p.table.n ≡ n
  pub m_is : p.table.m ≡ m
  pub nodes : n ≤ length p.table.nodes
  pub bits : (i : ℕ) → i < n → m ≤ length (node_at p.table i).bits
  pub decided : (i : ℕ) → i < n → m ≤ length (node_at p.table i).decided
  pub finals : (i : ℕ) → i < n → n ≤ length (node_at p.table i).finals
  pub undecided : (i c : ℕ) → decided_at p.table i c ≡ false
  pub values : n * m ≤ length p.values

-- an accepted mark
mark_in : (t : Table) (i : ℕ) → mark_faulty_refusal t i ≡ None → i < t.n
mark_in t i e = grind arith

or_assoc : (x y z : Bool) → ((x || y) || z) ≡ (y || (x || z))
or_assoc x y z = grind arith

-- an accepted proposal
propose_in : (t : Table) (fits : Bool) (i c : ℕ) → propose_refusal t fits i c ≡ None → (i < t.n) × (c < t.m)
propose_in t fits i c e = grind arith

module _ {R : Type 0} (n m : ℕ) where
  ready_effect : (p : Prepared R) (k : SetupCall R) → Ready n m p → Ready n m (setup_effect p k)
  ready_effect p (MarkFaulty i) g = record {
    n_is = g.n_is;
    m_is = g.m_is;
    nodes = subst (λ k. n ≤ k) (sym (length-set p.table.nodes i (marked (node_at p.table i)))) g.nodes;
    bits = λ k l. subst (λ u. m ≤ u) (sym (set_keeps (λ (x : Node). length x.bits) p.table.nodes i k (marked (node_at p.table i)) no_node refl)) (g.bits k l);
    decided = λ k l. subst (λ u. m ≤ u) (sym (set_keeps (λ (x : Node). length x.decided) p.table.nodes i k (marked (node_at p.table i)) no_node refl)) (g.decided k l);
    finals = λ k l. subst (λ u. n ≤ u) (sym (set_keeps (λ (x : Node). length x.finals) p.table.nodes i k (marked (node_at p.table i)) no_node refl)) (g.finals k l);
    undecided = λ k c. set_keeps (λ (x : Node). get_or x.decided c false) p.table.nodes i k (marked (node_at p.table i)) no_node refl ∙ g.undecided k c;
    values = g.values;
  }
  ready_effect p (Propose i c x) g = record {
    n_is = g.n_is;
    m_is = g.m_is;
    nodes = g.nodes;
    bits = g.bits;
    decided = g.decided;
    finals = g.finals;
    undecided = g.undecided;
    values = subst (λ k. n * m ≤ k) (sym (length-set p.values (cell_place p.table i c) x)) g.values;
  }

  ready_after : (p : Prepared R) (v : SetupMove R) → Ready n m p → Ready n m (setup_after p v)
  ready_after p v g = go (setup_refusal p v.fits v.call)
    where
      go : (o : Option Refusal) → Ready n m (if_accepted o (setup_effect p v.call) p)
      go None = ready_effect p v.call g
      go (Some e) = g

  pub ready_run : (p : Prepared R) (vs : List (SetupMove R)) → Ready n m p → Ready n m (setup_run p vs)
  unfolding setup_run
  ready_run p [] g = g
  ready_run p (v ∷ vs) g = ready_run (setup_after p v) vs (ready_after p v g)

  marked_at : (p : Prepared R) (i j : ℕ) → j < length p.table.nodes → faulty_at (with_node p.table j marked) i ≡ (eqb i j || faulty_at p.table i)
  marked_at p i j l = grind (arith, get_or-set_same, get_or-set_other)

  -- a node is faulty after a call if it was, or the call was accepted and marked it
  faulty_after : (p : Prepared R) (v : SetupMove R) → Ready n m p → (i : ℕ) →
      faulty_at (setup_after p v).table i ≡ ((marks_node i v.call && not (is_err (setup_answer p v))) || faulty_at p.table i)
  faulty_after p v g i = go v.call (setup_refusal p v.fits v.call) refl
    where
      go : (k : SetupCall R) (o : Option Refusal) → setup_refusal p v.fits k ≡ o →
          faulty_at (if_accepted o (setup_effect p k) p).table i ≡ ((marks_node i k && not (is_err {T = Told R} (answered o Done))) || faulty_at p.table i)
      go (MarkFaulty j) None e =
          let l : j < length p.table.nodes = omega (arith, mark_in p.table j e, g.n_is, g.nodes) in
          marked_at p i j l ∙ ap (λ b. b || faulty_at p.table i) (sym (and-true (eqb i j)))
      go (MarkFaulty j) (Some r) e = ap (λ b. b || faulty_at p.table i) (sym (and-false (eqb i j)))
      go (Propose j c x) None e = refl
      go (Propose j c x) (Some r) e = refl

  pub faulty_run : (p : Prepared R) (vs : List (SetupMove R)) → Ready n m p → (i : ℕ) → faulty_at (setup_run p vs).table i ≡ (faulty_at p.table i || is_faulty (setup_history p vs) i)
  unfolding setup_run setup_history is_faulty
  faulty_run p [] g i = sym (or-false (faulty_at p.table i))
  faulty_run p (v ∷ vs) g i =
      faulty_run (setup_after p v) vs (ready_after p v g) i
      ∙ ap (λ b. b || is_faulty (setup_history (setup_after p v) vs) i) (faulty_after p v g i)
      ∙ or_assoc (marks_node i v.call && not (is_err (setup_answer p v))) (faulty_at p.table i) (is_faulty (setup_history (setup_after p v) vs) i)

  set_at : (l : List (Option R)) (k i c j d : ℕ) (y : Option R) → n * k ≤ length l → i < n → c < k → j < n → d < k →
      get_or (set l (j * k + d) y) (i * k + c) None ≡ cond (eqb i j && eqb c d) y (get_or l (i * k + c) None)
  set_at l k i c j d y len li lc lj ld =
      elim (cases_Bool (eqb i j && eqb c d)) [
        | inl e ↦
            let h = and_parts (eqb i j) (eqb c d) e in
            let p : i * k + c ≡ j * k + d = ap₂ (λ u v. u * k + v) (eqb-true i j h.0) (eqb-true c d h.1) in
            let b : j * k + d < n * k = digits_lt lj ld in
            rw e (rw p (get_or-set_same l (j * k + d) y None (omega arith)))
        | inr e ↦
            let ne : i * k + c ≢ j * k + d = λ p. both_ways (eqb i j && eqb c d) e
            (and_from (eqb i j) (eqb c d)
            (eq-eqb i j (sym (digits_div i lc) ∙ ap (λ x. x / k) p ∙ digits_div j ld))
            (eq-eqb c d (sym (digits_mod i lc) ∙ ap (λ x. x % k) p ∙ digits_mod j ld))) in
            rw e (get_or-set_other l (j * k + d) (i * k + c) y None ne)
      ]

  value_step : (p : Prepared R) (v : SetupMove R) → Ready n m p → (i c : ℕ) → i < n → c < m →
      value_at (setup_after p v).table (setup_after p v).values i c ≡ cond (is_err (setup_answer p v)) (value_at p.table p.values i c) (proposed i c (value_at p.table p.values i c) v.call)
  value_step p v g i c li lc = go v.call (setup_refusal p v.fits v.call) refl
    where
      go : (k : SetupCall R) (o : Option Refusal) → setup_refusal p v.fits k ≡ o →
          value_at (if_accepted o (setup_effect p k) p).table (if_accepted o (setup_effect p k) p).values i c
          ≡ cond (is_err {T = Told R} (answered o Done)) (value_at p.table p.values i c) (proposed i c (value_at p.table p.values i c) k)
      go (MarkFaulty j) None e = refl
      go (MarkFaulty j) (Some r) e = refl
      go (Propose j d y) None e =
          let h = propose_in p.table v.fits j d e in
          let em = g.m_is in
          let en = g.n_is in
          set_at p.values p.table.m i c j d y (subst (λ u. n * u ≤ length p.values) (sym em) g.values) li (omega arith) (omega (arith, h.0)) h.1
      go (Propose j d y) (Some r) e = refl

  pub value_run : (p : Prepared R) (vs : List (SetupMove R)) → Ready n m p → (i c : ℕ) → i < n → c < m →
      value_at (setup_run p vs).table (setup_run p vs).values i c ≡ began_from (value_at p.table p.values i c) (setup_history p vs) i c
  unfolding setup_run setup_history began_from
  value_run p [] g i c li lc = refl
  value_run p (v ∷ vs) g i c li lc =
      value_run (setup_after p v) vs (ready_after p v g) i c li lc
      ∙ ap (λ x. began_from x (setup_history (setup_after p v) vs) i c) (value_step p v g i c li lc)

-- a new table: of 16 nodes, each honest, with nothing decided
new_at : (i : ℕ) → i < 16 → get_or (replicate 16 new_node) i no_node ≡ new_node
new_at i l = get_or-replicate 16 i new_node no_node l

new_keeps : {Y : Type 0} (φ : Node → Y) → φ no_node ≡ φ new_node → (i : ℕ) → φ (get_or (replicate 16 new_node) i no_node) ≡ φ new_node
new_keeps φ h i = grind (arith, new_at, get_or_past)

blank_at : (c : ℕ) → get_or (replicate 16 false) c false ≡ false
blank_at c = grind (arith, get_or-replicate, get_or_past)

module _ {R : Type 0} (n m : ℕ) (sizes : Sizes n m) (b : Boards R n m) where
  pub ready_start : Ready n m (start n m sizes b)
  ready_start =
      let hn = sizes.few_nodes in
      let hm = sizes.few_items in
      record {
        n_is = refl;
        m_is = refl;
        nodes = hn;
        bits = λ i l. subst (λ x. m ≤ length x.bits) (sym (new_at i (omega arith))) hm;
        decided = λ i l. subst (λ x. m ≤ length x.decided) (sym (new_at i (omega arith))) hm;
        finals = λ i l. subst (λ x. n ≤ length x.finals) (sym (new_at i (omega arith))) hn;
        undecided = λ i c. new_keeps (λ (x : Node). get_or x.decided c false) (sym (blank_at c)) i ∙ blank_at c;
        values = subst (λ k. n * m ≤ k) (sym (length_written (n * m) (λ _. None) b.values)) b.long_values;
      }

  pub faulty_start : (ks : List (SetupMove R)) (i : ℕ) → faulty_at (setup_run (start n m sizes b) ks).table i ≡ is_faulty (setup_asked n m sizes b ks) i
  faulty_start ks i =
      faulty_run n m (start n m sizes b) ks ready_start i
      ∙ ap (λ x. x || is_faulty (setup_asked n m sizes b ks) i) (new_keeps (λ (x : Node). x.faulty) refl i)

  pub value_start : (ks : List (SetupMove R)) (i c : ℕ) → i < n → c < m →
      value_at (setup_run (start n m sizes b) ks).table (setup_run (start n m sizes b) ks).values i c ≡ began (setup_asked n m sizes b ks) i c
  value_start ks i c li lc =
      let l : i * m + c < n * m = digits_lt li lc in
      let h = b.long_values in
      value_run n m (start n m sizes b) ks ready_start i c li lc
      ∙ ap (λ x. began_from x (setup_asked n m sizes b ks) i c) (written_at (n * m) (λ _. None) b.values (i * m + c) None l (omega arith))

  pub opened_fits : (ks : List (SetupMove R)) → Fits n m (is_faulty (setup_asked n m sizes b ks)) (open_world n m sizes b ks)
  opened_fits ks =
      let g = ready_run n m (start n m sizes b) ks ready_start in
      record {
        n_is = g.n_is;
        m_is = g.m_is;
        nodes = g.nodes;
        faulty_is = faulty_start ks;
        bits = g.bits;
        decided = g.decided;
        finals = g.finals;
        values = g.values;
        sent = b.long_sent;
        marks = subst (λ k. n * n * m ≤ k) (sym (length_written (n * n * m) (λ _. 0) b.marks)) b.long_marks;
        timely = record { begun = omega arith; early = λ _. refl };
      }

  pub opened_stage : (meaning : R → ℕ) (ks : List (SetupMove R)) (c : ℕ) → c < m →
      Stage meaning n (is_faulty (setup_asked n m sizes b ks)) (λ i. began (setup_asked n m sizes b ks) i c) (item_of (open_world n m sizes b ks) c)
  opened_stage meaning ks c lc =
      let g = ready_run n m (start n m sizes b) ks ready_start in
      polling refl (λ i l s. value_start ks i c l lc) (λ i l s. g.undecided i c)

  pub faulty_tally : (ks : List (SetupMove R)) → faulty_count (setup_asked n m sizes b ks) n ≡ tally n (is_faulty (setup_asked n m sizes b ks))
  faulty_tally ks = counted_nodes (is_faulty (setup_asked n m sizes b ks)) n
