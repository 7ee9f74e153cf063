-- Small runs with all their answers: the law's premises can be met, and its answers differ from run to run.
use Rattle.std.specs.Prelude.{◌≡◌, ℕ, true, false, not, List, [], ◌∷◌, ◌++◌, map, Some, None, Ok, Err, Option, Result, ◌==◌}
use Rattle.refusal.specs.declared.Refusal.{Refusal}
use Rattle.refusal.specs.declared.Refusal.TheVariants.{HonestSender, FaultyNode, WrongPhase, Repeated, Over}
use Rattle.board.specs.declared.states.Decision.TheVariants.{Undecided, Decided}
use Rattle.law.specs.declared.calls.SetupCall.{SetupCall}
use Rattle.law.specs.declared.calls.SetupCall.TheVariants.{MarkFaulty, Propose}
use Rattle.law.specs.declared.calls.Call.{Call}
use Rattle.law.specs.declared.calls.Call.TheVariants as call
use Rattle.law.specs.declared.calls.Told.{Told}
use Rattle.law.specs.declared.calls.Told.TheVariants.{Done, Decision, Count}
use Rattle.law.specs.Runs.{Tosses}
use Rattle.law.specs.Law.{Sizes, Boards, with_coin, asked}

-- the answers of a run of four nodes and one item, of readings that mean themselves
abbrev pub answers : Sizes 4 1 → Boards ℕ 4 1 → Tosses → List (SetupCall ℕ) → List (Call ℕ) → List (Result (Told ℕ) Refusal)
answers sizes b f ks cs =
    map (λ a. a.answer) (asked (λ r. r) 4 1 sizes b
    (with_coin f (map (λ k. record { call = k; fits = true }) ks) (map (λ k. record { call = k; fits = true }) cs) (record { node = 0; item = 0; fits = true } ∷ [])))

-- node 3 is faulty, and these are the cells of nodes 0, 1 and 2
abbrev pub begin : Option ℕ → Option ℕ → Option ℕ → List (SetupCall ℕ)
begin x y z = MarkFaulty 3 ∷ Propose 0 0 x ∷ Propose 1 0 y ∷ Propose 2 0 z ∷ Propose 3 0 (Some 9) ∷ []

-- node 3 speaks for 7 to nodes 0 and 1 and then to node 0 alone, and then keeps the bits apart past the first toss
abbrev pub dividing : List (Call ℕ)
dividing =
    call.SendValue 0 1 0 (Some 7) ∷ call.SendValue 3 0 0 (Some 7) ∷ call.SendValue 3 0 0 (Some 8) ∷ call.SendValue 3 1 0 (Some 7) ∷ call.Close ∷
    call.SendValue 3 0 0 (Some 7) ∷ call.Close ∷ call.SendBit 3 0 0 1 ∷ call.SendBit 3 0 0 2 ∷ call.Close ∷ call.SendBit 3 0 0 0 ∷ call.Close ∷
    call.SendBit 3 0 0 1 ∷ call.Close ∷ call.Undecided 3 ∷ call.Close ∷ call.Close ∷ call.Decision 3 0 ∷ []

-- what the calls up to the toss answer
abbrev pub divided : List (Result (Told ℕ) Refusal)
divided =
    Err HonestSender ∷ Ok Done ∷ Err Repeated ∷ Ok Done ∷ Ok Done ∷
    Ok Done ∷ Ok Done ∷ Ok Done ∷ Err WrongPhase ∷ Ok Done ∷ Ok Done ∷ Ok Done ∷
    Ok Done ∷ Ok Done ∷ Ok (Count 3) ∷ Ok Done ∷ []

-- Runs on boards that held anything before.
pub record Samples : Type 0 where
  pub sizes : Sizes 4 1
  pub one : Boards ℕ 4 1
  pub other : Boards ℕ 4 1
  -- all honest nodes begin with 7: it is decided at step 3, so that the close of step 4 is refused
  pub alike : answers sizes one (λ i k c. true) (begin (Some 7) (Some 7) (Some 7)) (call.Decision 1 0 ∷ call.Close ∷ call.Close ∷ call.Close ∷ call.Close ∷ call.Decision 1 0 ∷ [])
      ≡ Ok (Decision Undecided) ∷ Ok Done ∷ Ok Done ∷ Ok Done ∷ Err Over ∷ Ok (Decision (Decided (Some 7))) ∷ Ok (Decision (Decided (Some 7))) ∷ []
  -- none is decided at step 4
  pub empty : answers sizes one (λ i k c. true) (begin None None None) (call.Close ∷ call.Close ∷ call.Close ∷ call.Decision 2 0 ∷ call.Close ∷ call.Decision 2 0 ∷ [])
      ≡ Ok Done ∷ Ok Done ∷ Ok Done ∷ Ok (Decision Undecided) ∷ Ok Done ∷ Ok (Decision (Decided None)) ∷ Ok (Decision (Decided None)) ∷ []
  -- two coins that toss 0 in round 1 leave the item undecided after step 7
  pub waits : answers sizes one (λ i k c. false) (begin (Some 7) (Some 7) (Some 8)) dividing ≡ divided ++ (Ok Done ∷ Err FaultyNode ∷ Ok (Decision Undecided) ∷ [])
  pub waits_too : answers sizes other (λ i k c. not (k == 1)) (begin (Some 7) (Some 7) (Some 8)) dividing ≡ divided ++ (Ok Done ∷ Err FaultyNode ∷ Ok (Decision Undecided) ∷ [])
  -- a coin that tosses 1 there has it decided
  pub ends : answers sizes other (λ i k c. true) (begin (Some 7) (Some 7) (Some 8)) dividing ≡ divided ++ (Ok Done ∷ Err FaultyNode ∷ Ok (Decision (Decided None)) ∷ [])
