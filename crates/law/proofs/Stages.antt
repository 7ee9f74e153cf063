-- The invariant of one item, from step to step.
use Rattle.std.proofs.Common.{◌≡◌, ℕ, ◌<◌, Bool, true, false, cond, not, ◌||◌, ◌⊎◌, Some, None, Option, sym, refl, ap, ◌∙◌, inl, inr, arith}
use Rattle.std.proofs.lemmas.Bool.{false≢true, cases_Bool, both_ways}
use Rattle.coin.specs.Tosses.{toss_of}
use Rattle.closing.specs.declared.types.Phase.{Phase}
use Rattle.closing.specs.declared.types.Phase.TheVariants.{Poll, Echo}
use Rattle.closing.specs.Closings.{sends_cells}
use Rattle.agreement.specs.Closes.{next_phase}
use Rattle.law.specs.Runs.{Tosses}
use Rattle.law.proofs.Tallies.{tally_cases}
use Rattle.law.proofs.Quorums.{Quorum, honests, honests_in, honests_out}
use Rattle.law.proofs.Leads.{is_none, leads}
use Rattle.law.proofs.Ballots.{Majority, Sifted, Holding, poll_sifts, echo_holds, echo_majority}
use Rattle.law.proofs.Votings.{vote_all, decided_all}
use Rattle.law.proofs.Items.{Item, Closing, hears, marks_bits, votes_at, value_polled, value_echoed, value_stays, bit_echoed, bit_voted, decided_early, decided_voted}

-- bits are sent in every step after the echo
pub late_next : (p : Phase) → sends_cells p ≡ false → sends_cells (next_phase p) ≡ false
late_next p e = grind arith

module _ {R : Type 0} (meaning : R → ℕ) (n : ℕ) (faulty : ℕ → Bool) where
  abbrev pub NoneDecided : Item R → Type 0
  NoneDecided x = (i : ℕ) → i < n → faulty i ≡ false → x.decided i ≡ false

  abbrev pub AllDecided : Item R → Type 0
  AllDecided x = (i : ℕ) → i < n → faulty i ≡ false → x.decided i ≡ true

  abbrev pub AllBits : Bool → Item R → Type 0
  AllBits b x = (i : ℕ) → i < n → faulty i ≡ false → x.bit i ≡ b

  -- all honest nodes hold readings of one meaning, with which a majority of them began
  abbrev pub Held : (ℕ → Option R) → Item R → Type 0
  Held start x = (v : ℕ) × Majority meaning n faulty start v × Holding meaning n faulty v x.value

  pub data Stage (start : ℕ → Option R) (x : Item R) : Type 0 where
    polling : x.phase ≡ Poll → ((i : ℕ) → i < n → faulty i ≡ false → x.value i ≡ start i) → NoneDecided x → Stage start x
    echoing : x.phase ≡ Echo → Sifted meaning n faulty start x.value → NoneDecided x → Stage start x
    voting : sends_cells x.phase ≡ false → NoneDecided x ⊎ ((b : Bool) × AllBits b x) → AllBits true x ⊎ Held start x → Stage start x

  -- what lasts from step 3 on
  pub record Grows (x y : Item R) : Type 0 where
    pub late : sends_cells y.phase ≡ false
    pub value : (i : ℕ) → i < n → faulty i ≡ false → y.value i ≡ x.value i
    pub decided : (i : ℕ) → i < n → faulty i ≡ false → x.decided i ≡ true → y.decided i ≡ true
    pub bits : (b : Bool) → AllBits b x → AllBits b y

  pub grows_self : (x : Item R) → sends_cells x.phase ≡ false → Grows x x
  grows_self x e = record { late = e; value = λ i l s. refl; decided = λ i l s d. d; bits = λ b a. a }

  pub grows_on : (x y z : Item R) → Grows x y → Grows y z → Grows x z
  grows_on x y z g h = record {
    late = h.late;
    value = λ i l s. h.value i l s ∙ g.value i l s;
    decided = λ i l s d. h.decided i l s (g.decided i l s d);
    bits = λ b a. h.bits b (g.bits b a);
  }

  module _ (q w c : ℕ) (Q : Quorum n faulty q w) (f : Tosses) (x y : Item R) (k : Closing meaning n faulty q w c f x y) where
    pub decided_stays : (i : ℕ) → i < n → faulty i ≡ false → x.decided i ≡ true → y.decided i ≡ true
    decided_stays i l e d =
        elim (cases_Bool (sends_cells x.phase)) [
          | inl h ↦ decided_early meaning n faulty q w c f x y k i l e h ∙ d
          | inr h ↦ decided_voted meaning n faulty q w c f x y k i l e h ∙ rw d
        ]

    pub bits_stay : sends_cells x.phase ≡ false → (b : Bool) → AllBits b x → AllBits b y
    bits_stay e b a i l s = bit_voted meaning n faulty q w c f x y k i l s e ∙ go (x.decided i)
      where
        go : (d : Bool) → cond d (x.bit i) (votes_at meaning n faulty q w c f x y k i).0 ≡ b
        go true = a i l s
        go false = vote_all n faulty q w Q x.phase e b x.bit (k.marks i) (toss_of f i x.round c) (marks_bits meaning n faulty q w c f x y k i) a

    pub late_stays : sends_cells x.phase ≡ false → sends_cells y.phase ≡ false
    late_stays e = ap sends_cells k.phase ∙ late_next x.phase e

    pub closing_grows : sends_cells x.phase ≡ false → Grows x y
    closing_grows e = record {
      late = late_stays e;
      value = λ i l s. value_stays meaning n faulty q w c f x y k i l s e;
      decided = λ i l s d. decided_stays i l s d;
      bits = λ b a. bits_stay e b a;
    }

    module _ (start : ℕ → Option R) where
      poll_closes : x.phase ≡ Poll → ((i : ℕ) → i < n → faulty i ≡ false → x.value i ≡ start i) → NoneDecided x → Stage start y
      poll_closes e o d =
          echoing (k.phase ∙ ap next_phase e)
          (λ i l s r h. poll_sifts meaning n faulty q w Q start (k.cells i)
          (λ j m g. hears meaning n faulty q w c f x y k i j m g ∙ o j m g) r (sym (value_polled meaning n faulty q w c f x y k i l s e) ∙ h))
          (λ i l s. decided_early meaning n faulty q w c f x y k i l s (ap sends_cells e) ∙ d i l s)

      none_some : (o : Option R) → not (is_none o) ≡ true → (r : R) × (o ≡ Some r)
      none_some (Some r) e = (r, refl)
      none_some None e = absurd (false≢true e)

      echo_held : x.phase ≡ Echo → Sifted meaning n faulty start x.value → (j : ℕ) (r : R) → leads meaning n q (k.cells j) ≡ Some r → Held start y
      echo_held e sift j r g = (
        meaning r,
        echo_majority meaning n faulty q w Q start x.value (k.cells j) (hears meaning n faulty q w c f x y k j) sift r g,
        (λ i l s.
            let h = echo_holds meaning n faulty q w Q start x.value (k.cells j) (k.cells i) (hears meaning n faulty q w c f x y k j) (hears meaning n faulty q w c f x y k i) sift r g in
            (h.0, value_echoed meaning n faulty q w c f x y k i l s e ∙ h.1, h.2)),
      )

      -- whether node j has a quorum for a reading
      abbrev quorum_at : ℕ → Bool
      quorum_at j = not (is_none (leads meaning n q (k.cells j)))

      echo_closes : x.phase ≡ Echo → Sifted meaning n faulty start x.value → NoneDecided x → Stage start y
      echo_closes e sift d =
          voting (ap sends_cells (k.phase ∙ ap next_phase e))
          (inl (λ i l s. decided_early meaning n faulty q w c f x y k i l s (ap sends_cells e) ∙ d i l s))
          (elim (tally_cases n (honests n faulty quorum_at)) [
            | inl none ↦ inl (λ i l s. bit_echoed meaning n faulty q w c f x y k i l s e ∙ blank i l s (none i l))
            | inr z ↦
                let o = honests_out n faulty quorum_at z.0 z.2 in
                let r = none_some (leads meaning n q (k.cells z.0)) o.1 in
                inr (echo_held e sift z.0 r.0 r.1)
          ])
        where
          blank : (i : ℕ) → i < n → faulty i ≡ false → honests n faulty quorum_at i ≡ false → is_none (leads meaning n q (k.cells i)) ≡ true
          blank i l s h = elim (cases_Bool (is_none (leads meaning n q (k.cells i)))) [
            | inl a ↦ a
            | inr a ↦ absurd (false≢true (sym h ∙ honests_in n faulty quorum_at i s (ap not a)))
          ]

      -- where none had decided, and one decides now, all honest bits are alike
      decides_all : sends_cells x.phase ≡ false → NoneDecided x → (j : ℕ) → j < n → faulty j ≡ false → y.decided j ≡ true → (b : Bool) × AllBits b y
      decides_all e d j l s h =
          let g : (votes_at meaning n faulty q w c f x y k j).1 ≡ true =
          sym (decided_voted meaning n faulty q w c f x y k j l s e ∙ ap (λ u. u || (votes_at meaning n faulty q w c f x y k j).1) (d j l s)) ∙ h in
          let a = decided_all n faulty q w Q x.phase x.bit (k.marks j) (toss_of f j x.round c) (marks_bits meaning n faulty q w c f x y k j) g in (
            a.0,
            λ i m t. bit_voted meaning n faulty q w c f x y k i m t e
                ∙ ap (λ u. cond u (x.bit i) (votes_at meaning n faulty q w c f x y k i).0) (d i m t)
                ∙ a.1 (k.marks i) (toss_of f i x.round c) (marks_bits meaning n faulty q w c f x y k i),
          )

      vote_closes : sends_cells x.phase ≡ false → NoneDecided x ⊎ ((b : Bool) × AllBits b x) → AllBits true x ⊎ Held start x → Stage start y
      vote_closes e J K = voting (late_stays e) (one J) (two K)
        where
          one : NoneDecided x ⊎ ((b : Bool) × AllBits b x) → NoneDecided y ⊎ ((b : Bool) × AllBits b y)
          one (inr a) = inr (a.0, bits_stay e a.0 a.1)
          one (inl d) =
              elim (tally_cases n (honests n faulty y.decided)) [
                | inl none ↦ inl (λ i l s. elim (cases_Bool (y.decided i)) [
                  | inl z ↦ absurd (false≢true (sym (none i l) ∙ honests_in n faulty y.decided i s z))
                  | inr z ↦ z
                ])
                | inr z ↦
                    let o = honests_out n faulty y.decided z.0 z.2 in
                    inr (decides_all e d z.0 z.1 o.0 o.1)
              ]

          two : AllBits true x ⊎ Held start x → AllBits true y ⊎ Held start y
          two (inl a) = inl (bits_stay e true a)
          two (inr h) = inr (h.0, h.1, λ i l s. let r = h.2 i l s in (r.0, value_stays meaning n faulty q w c f x y k i l s e ∙ r.1, r.2))

      pub closing_stage : Stage start x → Stage start y
      closing_stage (polling e o d) = poll_closes e o d
      closing_stage (echoing e o d) = echo_closes e o d
      closing_stage (voting e J K) = vote_closes e J K

  -- What is known of an item that an honest node has decided.
  pub record Known (start : ℕ → Option R) (x : Item R) (b : Bool) : Type 0 where
    pub late : sends_cells x.phase ≡ false
    pub all : AllBits b x
    pub held : b ≡ false → Held start x

  pub known : (start : ℕ → Option R) (x : Item R) (i : ℕ) → i < n → faulty i ≡ false → Stage start x → x.decided i ≡ true → Known start x (x.bit i)
  known start x i l s (polling e o d) h = absurd (both_ways _ (d i l s) h)
  known start x i l s (echoing e o d) h = absurd (both_ways _ (d i l s) h)
  known start x i l s (voting e (inl d) K) h = absurd (both_ways _ (d i l s) h)
  known start x i l s (voting e (inr a) K) h = record {
    late = e;
    all = λ j m t. a.1 j m t ∙ sym (a.1 i l s);
    held = go K;
  }
    where
      go : AllBits true x ⊎ Held start x → x.bit i ≡ false → Held start x
      go (inl u) e = absurd (both_ways _ e (u i l s))
      go (inr h) e = h
