-- The calls of a script as moves of a run.
use Rattle.std.specs.Prelude.{◌≡◌, ℕ, ◌*◌, Bool, true, ◌&&◌, List, map, drop, Option, Result}
use Rattle.refusal.specs.declared.Refusal.{Refusal}
use Rattle.refusal.specs.Refusals.{answered}
use Rattle.board.specs.declared.states.Table.{Table}
use Rattle.agreement.specs.declared.states.Instance.{Instance}
use Rattle.board.specs.Tables.{cells_needed}
use Rattle.board.specs.Tables.{fits}
use Rattle.law.specs.declared.calls.SetupCall.{SetupCall}
use Rattle.law.specs.declared.calls.Call.{Call}
use Rattle.law.specs.declared.calls.Call.TheVariants as call
use Rattle.law.specs.declared.calls.Told.{Told}
use Rattle.law.specs.Runs.{Tosses, SetupMove, SetupAsked, Prepared, setup_after, setup_answer, Move, World, Asked, refusal, says, effect}
use Rattle.board.specs.Setups.{if_accepted}

-- The four boards as they are lent.
pub record Lent (R : Type 0) : Type 0 where
  pub values : List (Option R)
  pub scratch : List (Option R)
  pub sent : List (Option R)
  pub marks : List ℕ

module _ {R : Type 0} (n m : ℕ) (b : Lent R) where
  -- whether the boards that a call brings are long enough
  abbrev pub fits_call : Call R → Bool
  fits_call (call.SendValue i j c x) = fits (n * n * m) b.sent && fits (n * n * m) b.marks
  fits_call (call.SendBit i j c k) = fits (n * n * m) b.marks
  fits_call (call.SendFinal i j) = true
  fits_call call.Close =
      fits (n * m) b.values && (fits (n * m) b.scratch && (fits (n * n * m) b.sent && fits (n * n * m) b.marks))
  fits_call (call.Decision i c) = fits (n * m) b.values
  fits_call (call.Undecided places) = true

  -- a call as it is made with these boards and a coin with the tosses f
  abbrev pub move_of : Tosses → Call R → Move R
  move_of f k = record { call = k; tosses = f; fits = fits_call k }

  abbrev pub moves_of : Tosses → List (Call R) → List (Move R)
  moves_of f ks = map (move_of f) ks

-- a setup call as it is made with this values board
abbrev pub setup_move_of : {R : Type 0} → ℕ → ℕ → List (Option R) → SetupCall R → SetupMove R
setup_move_of n m values k = record { call = k; fits = fits (n * m) values }

abbrev pub setup_moves_of : {R : Type 0} → ℕ → ℕ → List (Option R) → List (SetupCall R) → List (SetupMove R)
setup_moves_of n m values ks = map (setup_move_of n m values) ks

-- one setup call was made: p and q are the setup before and after it, and a is what it answered
pub record SetupMade {R : Type 0} (v : SetupMove R) (p q : Prepared R) (a : Result (Told R) Refusal) : Type 0 where
  pub answer : a ≡ setup_answer p v
  pub setup : q ≡ setup_after p v

-- one call was made: w and w' are the instance with its boards before and after it, and a is what it answered
pub record Made {R : Type 0} (meaning : R → ℕ) (v : Move R) (w w' : World R) (a : Result (Told R) Refusal) : Type 0 where
  pub answer : a ≡ answered (refusal w v.fits v.call) (says w v.call)
  pub world : w' ≡ if_accepted (refusal w v.fits v.call) (effect meaning v.tosses w v.call) w

-- the instance with the boards that a call leaves or takes
abbrev pub world_of : {R : Type 0} → Instance → Lent R → World R
world_of s b = record { state = s; values = b.values; sent = b.sent; marks = b.marks }

-- what is left of the scratch board behind the cells that a close writes
abbrev pub surplus : {R : Type 0} → Table → Lent R → List (Option R)
surplus t b = drop (cells_needed t) b.scratch

-- the answers of calls
abbrev pub setup_says : {R : Type 0} → List (SetupAsked R) → List (Result (Told R) Refusal)
setup_says hs = map (λ a. a.answer) hs

abbrev pub call_says : {R : Type 0} → List (Asked R) → List (Result (Told R) Refusal)
call_says hs = map (λ a. a.answer) hs
