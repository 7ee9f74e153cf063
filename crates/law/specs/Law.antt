-- What every run keeps to.
use Rattle.std.specs.Prelude.{◌≡◌, ℕ, ◌+◌, ◌*◌, ◌<◌, ◌≤◌, Bool, true, false, cond, not, ◌&&◌, ◌||◌, ◌⊎◌, List, [], ◌∷◌, ◌++◌, map, length, take, Some, None, Ok, Err, is_err, count_by, Option, Result, ◌==◌}
use Rattle.std.specs.List.{slice_get, range_with_len}
use Rattle.refusal.specs.declared.Refusal.{Refusal}
use Rattle.refusal.specs.declared.Refusal.TheVariants.{Over}
use Rattle.coin.specs.Tosses.{toss_of}
use Rattle.closing.specs.Counting.{means}
use Rattle.board.specs.declared.states.Decision.TheVariants.{Undecided, Decided}
use Rattle.board.specs.Setups.{blank_values, blank_marks}
use Rattle.agreement.specs.Setups.{made, opened}
use Rattle.law.specs.declared.calls.SetupCall.{SetupCall}
use Rattle.law.specs.declared.calls.SetupCall.TheVariants.{MarkFaulty, Propose}
use Rattle.law.specs.declared.calls.Call.{Call}
use Rattle.law.specs.declared.calls.Call.TheVariants as call
use Rattle.law.specs.declared.calls.Told.{Told}
use Rattle.law.specs.declared.calls.Told.TheVariants.{Done, Decision}
use Rattle.law.specs.Runs.{Tosses, SetupMove, Prepared, SetupAsked, setup_run, setup_history, Move, World, Asked, run, history, Ask, outcome_history}

-- The sizes of a run.
pub record Sizes (n m : ℕ) : Type 0 where
  pub some_node : 1 ≤ n
  pub few_nodes : n ≤ 16
  pub some_item : 1 ≤ m
  pub few_items : m ≤ 16

-- The boards as the caller brings them: any contents, and a surplus of any length.
pub record Boards (R : Type 0) (n m : ℕ) : Type 0 where
  pub values : List (Option R)
  pub sent : List (Option R)
  pub marks : List ℕ
  pub long_values : n * m ≤ length values
  pub long_sent : n * n * m ≤ length sent
  pub long_marks : n * n * m ≤ length marks

-- The calls of a run: on the setup, on the instance, and on the outcome.
pub record Script (R : Type 0) : Type 0 where
  pub setup : List (SetupMove R)
  pub moves : List (Move R)
  pub asks : List Ask

module _ {R : Type 0} (n m : ℕ) (sizes : Sizes n m) where
  -- the setup as it is made
  abbrev pub start : Boards R n m → Prepared R
  start b = record {
    table = (made n m (sizes.some_node, sizes.few_nodes, sizes.some_item, sizes.few_items)).table;
    values = blank_values n m b.values;
  }

  -- the instance as it is opened
  abbrev pub open_world : Boards R n m → List (SetupMove R) → World R
  open_world b ks = record {
    state = opened (record { table = (setup_run (start b) ks).table });
    values = (setup_run (start b) ks).values;
    sent = b.sent;
    marks = blank_marks n m b.marks;
  }

  -- the setup's calls with their answers
  abbrev pub setup_asked : Boards R n m → List (SetupMove R) → List (SetupAsked R)
  setup_asked b ks = setup_history (start b) ks

module _ {R : Type 0} (meaning : R → ℕ) (n m : ℕ) (sizes : Sizes n m) where
  -- the instance as it is ended
  abbrev pub end_world : Boards R n m → Script R → World R
  end_world b x = run meaning (open_world n m sizes b x.setup) x.moves

  -- the instance's and the outcome's calls with their answers, in order
  abbrev pub asked : Boards R n m → Script R → List (Asked R)
  asked b x =
      history meaning (open_world n m sizes b x.setup) x.moves
      ++ outcome_history (end_world b x).state.table (end_world b x).values x.asks

-- whether an accepted call marked node i faulty
abbrev pub marks_node : {R : Type 0} → ℕ → SetupCall R → Bool
marks_node i (MarkFaulty j) = i == j
marks_node i (Propose j c x) = false

unfoldable pub is_faulty : {R : Type 0} → List (SetupAsked R) → ℕ → Bool
is_faulty [] i = false
is_faulty (a ∷ ss) i = (marks_node i a.call && not (is_err a.answer)) || is_faulty ss i

-- the cell that a call proposes for node i and item c, or else x
abbrev pub proposed : {R : Type 0} → ℕ → ℕ → Option R → SetupCall R → Option R
proposed i c x (MarkFaulty j) = x
proposed i c x (Propose j d y) = cond (i == j && c == d) y x

-- the last cell that an accepted call proposed for node i and item c, or else x
unfoldable pub began_from : {R : Type 0} → Option R → List (SetupAsked R) → ℕ → ℕ → Option R
began_from x [] i c = x
began_from x (a ∷ ss) i c = began_from (cond (is_err a.answer) x (proposed i c x a.call)) ss i c

-- the cell that node i began item c with: the last that was accepted, or else none
abbrev pub began : {R : Type 0} → List (SetupAsked R) → ℕ → ℕ → Option R
began ss i c = began_from None ss i c

-- two cells mean the same: both are none, or both are readings of one meaning
abbrev pub Same : {R : Type 0} → (R → ℕ) → Option R → Option R → Type 0
Same meaning (Some a) (Some b) = meaning a ≡ meaning b
Same meaning (Some a) None = ⊥
Same meaning None (Some b) = ⊥
Same meaning None None = Unit {0}

-- how many of n nodes are faulty, and how many are honest
abbrev pub faulty_count : {R : Type 0} → List (SetupAsked R) → ℕ → ℕ
faulty_count ss n = count_by (is_faulty ss) (range_with_len 0 n)

abbrev pub honest_count : {R : Type 0} → List (SetupAsked R) → ℕ → ℕ
honest_count ss n = count_by (λ i. not (is_faulty ss i)) (range_with_len 0 n)

-- fewer than a third of n nodes are faulty
abbrev pub FewFaulty : {R : Type 0} → List (SetupAsked R) → ℕ → Type 0
FewFaulty ss n = 3 * faulty_count ss n < n

-- how many honest nodes began item c with a reading that means v
abbrev pub began_count : {R : Type 0} → (R → ℕ) → List (SetupAsked R) → ℕ → ℕ → ℕ → ℕ
began_count meaning ss n c v = count_by (λ i. not (is_faulty ss i) && means meaning v (began ss i c)) (range_with_len 0 n)

-- node i is one of n, and honest
pub record Honest {R : Type 0} (ss : List (SetupAsked R)) (n i : ℕ) : Type 0 where
  pub node : i < n
  pub honest : is_faulty ss i ≡ false

-- at place p the call is a decision of item c at node i, and this is its answer
abbrev pub DecisionAt : {R : Type 0} → List (Asked R) → ℕ → ℕ → ℕ → Result (Told R) Refusal → Type 0
DecisionAt h p i c a = slice_get h p ≡ Some (record { call = call.Decision i c; answer = a })

-- at place p the call is a close, and this is its answer
abbrev pub CloseAt : {R : Type 0} → List (Asked R) → ℕ → Result (Told R) Refusal → Type 0
CloseAt h p a = slice_get h p ≡ Some (record { call = call.Close; answer = a })

abbrev pub is_close : {R : Type 0} → Call R → Bool
is_close (call.SendValue i j c x) = false
is_close (call.SendBit i j c b) = false
is_close (call.SendFinal i j) = false
is_close call.Close = true
is_close (call.Decision i c) = false
is_close (call.Undecided k) = false

-- how many closes were accepted before place p
abbrev pub closes_before : {R : Type 0} → List (Asked R) → ℕ → ℕ
closes_before h p = count_by (λ a. is_close a.call && not (is_err a.answer)) (take p h)

-- the step in force at place p
abbrev pub step_at : {R : Type 0} → List (Asked R) → ℕ → ℕ
step_at h p = 1 + closes_before h p

-- step 4 is behind place p: its close was accepted before, or one was refused before because nothing is undecided
abbrev pub PastFour : {R : Type 0} → List (Asked R) → ℕ → Type 0
PastFour h p = (q : ℕ) × (q < p) × (step_at h q ≡ 4) × (CloseAt h q (Ok Done) ⊎ CloseAt h q (Err Over))

-- What one run keeps to: `ss` are the setup's calls with their answers, `h` those after it.
pub record Kept {R : Type 0} (meaning : R → ℕ) (n m : ℕ) (ss : List (SetupAsked R)) (h : List (Asked R)) : Type 0 where
  -- Agreement: two decisions of one item mean the same, wherever and whenever they were asked for.
  pub agreement : (i j c p q : ℕ) (x y : Option R) → DecisionAt h p i c (Ok (Decision (Decided x))) → DecisionAt h q j c (Ok (Decision (Decided y))) → Same meaning x y
  -- Those of one node are equal.
  pub unchanging : (i c p q : ℕ) (x y : Option R) → DecisionAt h p i c (Ok (Decision (Decided x))) → DecisionAt h q i c (Ok (Decision (Decided y))) → x ≡ y
  -- What is decided at a node is never undecided there later.
  pub lasting : (i c p q : ℕ) (x : Option R) → DecisionAt h p i c (Ok (Decision (Decided x))) → p < q → DecisionAt h q i c (Ok (Decision Undecided)) → ⊥
  -- Majority: more than half of the honest nodes began with the meaning of a reading that is decided.
  pub majority : (i c p : ℕ) (r : R) → DecisionAt h p i c (Ok (Decision (Decided (Some r)))) → honest_count ss n < 2 * began_count meaning ss n c (meaning r)
  -- Unanimity: where all honest nodes began an item alike, it is decided so once step 4 is behind.
  pub unanimity : (c : ℕ) → ((i j : ℕ) → Honest ss n i → Honest ss n j → Same meaning (began ss i c) (began ss j c))
      → (i p : ℕ) (a : Result (Told R) Refusal) → PastFour h p → DecisionAt h p i c a → is_err a ≡ false
      → (x : Option R) × (a ≡ Ok (Decision (Decided x))) × Same meaning x (began ss i c)

-- A call with no coin of its own.
pub record Plain (R : Type 0) : Type 0 where
  pub call : Call R
  pub fits : Bool

-- a script whose closes all bring one coin
abbrev pub with_coin : {R : Type 0} → Tosses → List (SetupMove R) → List (Plain R) → List Ask → Script R
with_coin f ks ps qs = record { setup = ks; moves = map (λ p. record { call = p.call; tosses = f; fits = p.fits }) ps; asks = qs }

-- a coin that gives all honest nodes one bit for each round and item
abbrev pub TossesAlike : {R : Type 0} → List (SetupAsked R) → ℕ → Tosses → Type 0
TossesAlike ss n f = (i j k c : ℕ) → Honest ss n i → Honest ss n j → toss_of f i k c ≡ toss_of f j k c

-- item c is undecided at some node at a place after k accepted closes
abbrev pub OpenAfter : {R : Type 0} → List (Asked R) → ℕ → ℕ → Type 0
OpenAfter h c k = (i p : ℕ) × (k ≤ closes_before h p) × DecisionAt h p i c (Ok (Decision Undecided))

-- the second step of the round after round r
abbrev pub second_step : ℕ → ℕ
second_step r = 3 * r + 4

-- Delay: two runs of one script under two coins, each tossing alike, that both leave item c undecided after step 3r + 4 were tossed alike in rounds 1 to r.
abbrev pub Delayed : {R : Type 0} → ℕ → List (SetupAsked R) → List (Asked R) → List (Asked R) → Tosses → Tosses → Type 0
Delayed n ss h h' f f' = (c r : ℕ) → 1 ≤ r → r ≤ 99 → OpenAfter h c (second_step r) → OpenAfter h' c (second_step r)
    → (i k : ℕ) → Honest ss n i → 1 ≤ k → k ≤ r → toss_of f i k c ≡ toss_of f' i k c

-- The law, for every kind of reading: whatever the boards held, whatever was called, under fewer than a third of faulty nodes.
pub record Law {R : Type 0} (meaning : R → ℕ) : Type 0 where
  pub kept : (n m : ℕ) (sizes : Sizes n m) (b : Boards R n m) (x : Script R)
      → FewFaulty (setup_asked n m sizes b x.setup) n
      → Kept meaning n m (setup_asked n m sizes b x.setup) (asked meaning n m sizes b x)
  pub delay : (n m : ℕ) (sizes : Sizes n m) (b b' : Boards R n m) (ks : List (SetupMove R)) (ps : List (Plain R)) (qs : List Ask) (f f' : Tosses)
      → FewFaulty (setup_asked n m sizes b ks) n
      → TossesAlike (setup_asked n m sizes b ks) n f
      → TossesAlike (setup_asked n m sizes b ks) n f'
      → Delayed n (setup_asked n m sizes b ks)
      (asked meaning n m sizes b (with_coin f ks ps qs)) (asked meaning n m sizes b' (with_coin f' ks ps qs)) f f'
