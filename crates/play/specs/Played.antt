-- What playing a script leaves, and the law of the answers that it writes.
use Rattle.std.specs.Prelude.{◌≡◌, ℕ, ◌+◌, ◌*◌, ◌<◌, Bool, ◌||◌, List, [], ◌∷◌, ◌++◌, length, drop, Some, None, Option, ◌==◌, nat_lt, Result}
use Rattle.refusal.specs.declared.Refusal.{Refusal}
use Rattle.refusal.specs.declared.Refusal.TheVariants.{BadSize, Short}
use Rattle.refusal.specs.Refusals.{refuse}
use Rattle.board.specs.declared.states.Table.{Table}
use Rattle.board.specs.Setups.{make_refusal, blank_values, blank_marks}
use Rattle.agreement.specs.Setups.{made, opened}
use Rattle.board.specs.Tables.{fits}
use Rattle.law.specs.declared.calls.SetupCall.{SetupCall}
use Rattle.law.specs.declared.calls.Call.{Call}
use Rattle.law.specs.declared.calls.Told.{Told}
use Rattle.law.specs.Runs.{Tosses, Prepared, SetupAsked, setup_run, setup_history, World, Asked, run, history}
use Rattle.law.specs.Law.{Sizes, faulty_count, Kept, TossesAlike, Delayed}
use Rattle.play.specs.Moves.{Lent, moves_of, setup_moves_of, surplus, setup_says, call_says}

-- whether a number of nodes or items is 0 or above 16
abbrev pub bad_sizes : ℕ → ℕ → Bool
bad_sizes n m = n == 0 || nat_lt 16 n || m == 0 || nat_lt 16 m

-- the checks of a script: the sizes, the places for `count` answers, and the boards of a setup
abbrev pub play_refusal : ℕ → ℕ → ℕ → ℕ → ℕ → ℕ → Option Refusal
play_refusal n m values marks count places =
    refuse (bad_sizes n m) BadSize (refuse (nat_lt places count) Short (make_refusal n m values marks))

module _ {R : Type 0} (t : Table) (b : Lent R) (ks : List (SetupCall R)) where
  -- a made setup with its values board
  abbrev pub made_setup : Prepared R
  made_setup = record { table = t; values = b.values }

  -- its calls with their answers
  abbrev pub asked_first : List (SetupAsked R)
  asked_first = setup_history made_setup (setup_moves_of t.n t.m b.values ks)

  -- what its calls leave of it
  abbrev pub called_setup : Prepared R
  called_setup = setup_run made_setup (setup_moves_of t.n t.m b.values ks)

  -- the instance as it is opened
  abbrev pub first_world : World R
  first_world = record { state = opened (record { table = called_setup.table }); values = called_setup.values; sent = b.sent; marks = b.marks }

module _ {R : Type 0} (meaning : R → ℕ) (f : Tosses) (t : Table) (b : Lent R) (ks : List (SetupCall R)) (cs : List (Call R)) where
  -- the calls on the instance with their answers, each close under a coin with the tosses f
  abbrev pub asked_next : List (Asked R)
  asked_next = history meaning (first_world t b ks) (moves_of t.n t.m b f cs)

  -- the instance with its boards after them
  abbrev pub last_world : World R
  last_world = run meaning (first_world t b ks) (moves_of t.n t.m b f cs)

  -- What the calls leave on the boards and on the list of answers.
  pub record Ran (b' : Lent R) (old answers : List (Result (Told R) Refusal)) : Type 0 where
    pub answers_are : answers ≡ setup_says (asked_first t b ks) ++ (call_says asked_next ++ drop (length ks + length cs) old)
    pub values_are : b'.values ≡ last_world.values
    pub sent_is : b'.sent ≡ last_world.sent
    pub marks_are : b'.marks ≡ last_world.marks
    pub rest : surplus t b' ≡ surplus t b

-- calls, each with the answer at its place
abbrev pub paired_setup : {R : Type 0} → List (SetupCall R) → List (Result (Told R) Refusal) → List (SetupAsked R)
paired_setup [] answers = []
paired_setup (k ∷ ks) [] = []
paired_setup (k ∷ ks) (a ∷ answers) = record { call = k; answer = a } ∷ paired_setup ks answers

abbrev pub paired : {R : Type 0} → List (Call R) → List (Result (Told R) Refusal) → List (Asked R)
paired [] answers = []
paired (k ∷ ks) [] = []
paired (k ∷ ks) (a ∷ answers) = record { call = k; answer = a } ∷ paired ks answers

-- the boards as the making of a setup leaves them
abbrev pub blanked : {R : Type 0} → ℕ → ℕ → Lent R → Lent R
blanked n m b = record { values = blank_values n m b.values; scratch = b.scratch; sent = b.sent; marks = blank_marks n m b.marks }

-- other boards, of which the same are long enough
pub record FitAlike {R : Type 0} (n m : ℕ) (b b' : Lent R) : Type 0 where
  pub values : fits (n * m) b'.values ≡ fits (n * m) b.values
  pub scratch : fits (n * m) b'.scratch ≡ fits (n * m) b.scratch
  pub sent : fits (n * n * m) b'.sent ≡ fits (n * n * m) b.sent
  pub marks : fits (n * n * m) b'.marks ≡ fits (n * n * m) b.marks

-- the table of a new setup
abbrev pub new_table : (n m : ℕ) → Sizes n m → Table
new_table n m sizes = (made n m (sizes.some_node, sizes.few_nodes, sizes.some_item, sizes.few_items)).table

module _ {R : Type 0} (meaning : R → ℕ) (f : Tosses) (n m : ℕ) (ks : List (SetupCall R)) (cs : List (Call R)) where
  -- The law of written answers, under fewer than a third of faulty nodes: `ss` and `h` are the calls paired with them.
  pub record Lawful (sizes : Sizes n m) (b : Lent R) (ss : List (SetupAsked R)) (h : List (Asked R)) : Type 0 where
    pub kept : 3 * faulty_count ss n < n → Kept meaning n m ss h
    -- the same script under another coin, on other boards of which the same are long enough
    pub delay : 3 * faulty_count ss n < n → (f' : Tosses) (b' : Lent R) → FitAlike n m b b' → TossesAlike ss n f → TossesAlike ss n f' →
        Delayed n ss h (asked_next meaning f' (new_table n m sizes) (blanked n m b') ks cs) f f'

  -- What an accepted script leaves.
  pub record Played (sizes : Sizes n m) (b b' : Lent R) (old answers : List (Result (Told R) Refusal)) : Type 0 where
    pub ran : Ran meaning f (new_table n m sizes) (blanked n m b) ks cs b' old answers
    pub law : Lawful sizes b (paired_setup ks answers) (paired cs (drop (length ks) answers))

  -- what playing a script leaves: a refusal alters nothing
  abbrev pub Plays : Option Refusal → Lent R → Lent R → List (Result (Told R) Refusal) → List (Result (Told R) Refusal) → Type 0
  Plays None b b' old answers = (sizes : Sizes n m) × Played sizes b b' old answers
  Plays (Some e) b b' old answers = (b' ≡ b) × (answers ≡ old)
