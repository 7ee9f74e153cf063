-- What a toss does to an item, and two closings of one item under two coins.
use Rattle.std.proofs.Common.{◌≡◌, ℕ, ◌+◌, ◌*◌, ◌<◌, ◌≤◌, Bool, true, false, cond, List, map, Option, sym, refl, ap, ◌∙◌, ap₂, inl, inr, arith}
use Rattle.std.proofs.lemmas.Bool.{true≢false, cases_lt}
use Rattle.std.specs.List.{range_with_len}
use Rattle.coin.specs.Tosses.{toss_of}
use Rattle.closing.specs.declared.types.Phase.{Phase}
use Rattle.closing.specs.declared.types.Phase.TheVariants.{Poll, Echo, ToZero, ToOne, Toss}
use Rattle.closing.specs.declared.types.Step.{Step}
use Rattle.closing.specs.declared.types.ItemState.{ItemState}
use Rattle.closing.specs.Closings.{closed_in, after_vote, by_toss, sends_cells}
use Rattle.hearing.specs.Closes.{new_value, new_bit, new_decided}
use Rattle.agreement.specs.Closes.{next_phase, next_round}
use Rattle.law.specs.Runs.{Tosses}
use Rattle.law.proofs.Quorums.{Quorum}
use Rattle.law.proofs.Leads.{heard_same}
use Rattle.law.proofs.Votings.{voted}
use Rattle.law.proofs.Items.{Item, Closing, makes, Timely, zero_step, one_step, toss_step, votes_at, bit_voted}
use Rattle.law.proofs.Stages.{Stage, polling, echoing, voting, NoneDecided, AllDecided, AllBits, bits_stay, late_stays}
use Rattle.law.proofs.Unanimous.{step_of, closing_timely, closing_step, zeros_now, ones_now, stays_decided}

-- the step of round r + 1 that decides an item whose honest bits are all b
abbrev pub decision_step : Bool → ℕ → ℕ
decision_step true r = 3 * r + 4
decision_step false r = 3 * r + 3

module _ {R : Type 0} (meaning : R → ℕ) (n : ℕ) (faulty : ℕ → Bool) where
  -- All honest bits are b, and once that step is behind all honest nodes have decided.
  pub record Deciding (b : Bool) (r : ℕ) (x : Item R) : Type 0 where
    pub timely : Timely x.phase x.round
    pub late : sends_cells x.phase ≡ false
    pub all : AllBits meaning n faulty b x
    pub decided : decision_step b r < step_of meaning n faulty x → AllDecided meaning n faulty x

  -- Two items are alike: the step, and all that honest nodes have.
  pub record Alike (a b : Item R) : Type 0 where
    pub phase : a.phase ≡ b.phase
    pub round : a.round ≡ b.round
    pub value : (i : ℕ) → i < n → faulty i ≡ false → a.value i ≡ b.value i
    pub bit : (i : ℕ) → i < n → faulty i ≡ false → a.bit i ≡ b.bit i
    pub decided : (i : ℕ) → i < n → faulty i ≡ false → a.decided i ≡ b.decided i

  module _ (q w c : ℕ) (Q : Quorum n faulty q w) where
    module _ (f : Tosses) (x y : Item R) (k : Closing meaning n faulty q w c f x y) where
      deciding_decided : (b : Bool) (r : ℕ) → Deciding b r x → step_of meaning n faulty x ≡ decision_step b r → AllDecided meaning n faulty y
      deciding_decided true r g e =
          ones_now meaning n faulty q w c Q f x y k (one_step x.phase x.round (r + 1) (omega arith) (omega arith)) g.all
      deciding_decided false r g e =
          zeros_now meaning n faulty q w c Q f x y k (zero_step x.phase x.round (r + 1) (omega arith) (omega arith)) g.all

      pub deciding_closes : (b : Bool) (r : ℕ) → Deciding b r x → Deciding b r y
      deciding_closes b r g = record {
        timely = closing_timely meaning n faulty q w c Q f x y k g.timely;
        late = late_stays meaning n faulty q w c Q f x y k g.late;
        all = bits_stay meaning n faulty q w c Q f x y k g.late b g.all;
        decided = λ h. elim (cases_lt (decision_step b r) (step_of meaning n faulty x)) [
          | inl m ↦ stays_decided meaning n faulty q w c Q f x y k (g.decided m)
          | inr m ↦ deciding_decided b r g (omega (arith, closing_step meaning n faulty q w c Q f x y k g.timely))
        ];
      }

      toss_all : (b : Bool) → x.phase ≡ Toss → NoneDecided meaning n faulty x →
          ((j : ℕ) → j < n → faulty j ≡ false → (voted n faulty q Toss (k.marks j) b).0 ≡ b) →
          ((j : ℕ) → j < n → faulty j ≡ false → toss_of f j x.round c ≡ b) → AllBits meaning n faulty b y
      toss_all b e d v g j l s =
          bit_voted meaning n faulty q w c f x y k j l s (ap sends_cells e)
          ∙ ap (λ u. cond u (x.bit j) (votes_at meaning n faulty q w c f x y k j).0) (d j l s)
          ∙ ap₂ (λ p u. (voted n faulty q p (k.marks j) u).0) e (g j l s)
          ∙ v j l s

      -- a toss that all honest nodes would follow makes their bits alike
      pub toss_follows : (start : ℕ → Option R) (b : Bool) (r : ℕ) → Stage meaning n faulty start x → 1 ≤ r → step_of meaning n faulty x ≡ 3 * r + 2 →
          ((j : ℕ) → j < n → faulty j ≡ false → (voted n faulty q Toss (k.marks j) b).0 ≡ b) →
          ((j : ℕ) → j < n → faulty j ≡ false → toss_of f j r c ≡ b) → (d : Bool) × AllBits meaning n faulty d y
      toss_follows start b r g p h v t = go g (toss_step x.phase x.round r p h)
        where
          go : Stage meaning n faulty start x → (x.phase ≡ Toss) × (x.round ≡ r) → (d : Bool) × AllBits meaning n faulty d y
          go (polling e o d) z = absurd (true≢false (sym (ap sends_cells e) ∙ ap sends_cells z.0))
          go (echoing e o d) z = absurd (true≢false (sym (ap sends_cells e) ∙ ap sends_cells z.0))
          go (voting e (inr a) K) z = (a.0, bits_stay meaning n faulty q w c Q f x y k e a.0 a.1)
          go (voting e (inl d) K) z = (b, toss_all b z.0 d v (λ j l s. ap (λ u. toss_of f j u c) z.1 ∙ t j l s))

    closed_tosses : (f g : Tosses) (st : Step) (s : ItemState) (cells : List (Option R)) (marks : List ℕ) (p : Phase) →
        (p ≡ Toss → toss_of f s.node st.round s.item ≡ toss_of g s.node st.round s.item) →
        closed_in p meaning f st s cells marks ≡ closed_in p meaning g st s cells marks
    closed_tosses f g st s cells marks Poll h = refl
    closed_tosses f g st s cells marks Echo h = refl
    closed_tosses f g st s cells marks ToZero h = refl
    closed_tosses f g st s cells marks ToOne h = refl
    closed_tosses f g st s cells marks Toss h = ap (λ u. after_vote s (by_toss st.quorum u marks)) (h refl)

    module _ (f g : Tosses) (a b a' b' : Item R) (k : Closing meaning n faulty q w c f a a') (m : Closing meaning n faulty q w c g b b') (al : Alike a b)
        (cells : (j i : ℕ) → j < n → faulty j ≡ false → i < n → k.cells j i ≡ m.cells j i)
        (marks : (j i : ℕ) → j < n → faulty j ≡ false → i < n → k.marks j i ≡ m.marks j i)
        (tosses : (j : ℕ) → j < n → faulty j ≡ false → a.phase ≡ Toss → toss_of f j a.round c ≡ toss_of g j a.round c) where
      makes_same : (j : ℕ) → j < n → faulty j ≡ false → makes meaning n faulty q w c f a k.cells k.marks j ≡ makes meaning n faulty q w c g b m.cells m.marks j
      makes_same j l s =
          let cl = heard_same n (k.cells j) (m.cells j) (λ i. cells j i l s) in
          let ml = heard_same n (k.marks j) (m.marks j) (λ i. marks j i l s) in
          closed_tosses f g (record { phase = a.phase; round = a.round; quorum = q; weak_quorum = w })
          (record { node = j; item = c; bit = a.bit j; decided = a.decided j }) (map (k.cells j) (range_with_len 0 n)) (map (k.marks j) (range_with_len 0 n))
          a.phase (tosses j l s)
          ∙ (λ z. closed_in (al.phase z) meaning g (record { phase = al.phase z; round = al.round z; quorum = q; weak_quorum = w })
          (record { node = j; item = c; bit = al.bit j l s z; decided = al.decided j l s z }) (cl z) (ml z))

      -- two closings of items that are alike, with the same heard and tossed, are alike
      pub closing_alike : Alike a' b'
      closing_alike = record {
        phase = k.phase ∙ ap next_phase al.phase ∙ sym m.phase;
        round = k.round ∙ ap₂ next_round al.phase al.round ∙ sym m.round;
        value = λ j l s. k.value j l s ∙ ap₂ new_value (makes_same j l s) (al.value j l s) ∙ sym (m.value j l s);
        bit = λ j l s. k.bit j l s ∙ ap₂ new_bit (makes_same j l s) (al.bit j l s) ∙ sym (m.bit j l s);
        decided = λ j l s. k.decided j l s ∙ ap₂ new_decided (makes_same j l s) (al.decided j l s) ∙ sym (m.decided j l s);
      }
