-- What a participant has decided.
use Rattle.std.specs.Prelude.{ℕ, zero, suc, true, List, [], ◌∷◌, ◌++◌, Some, None, Ok, Err, Option, Result}
use Rattle.refusal.specs.declared.Refusal.{Refusal}
use Rattle.refusal.specs.Refusals.{answered}
use Rattle.board.specs.declared.states.Decision.{Decision}
use Rattle.board.specs.declared.states.Decision.TheVariants.{Undecided, Decided}
use Rattle.board.specs.Looks.{decision_refusal, decision_of}
use Rattle.participant.specs.Held.{Held}

module _ {X : Type 0} where
  -- a list with one more element, if both are there
  abbrev pub with_last : Option (List X) → Option X → Option (List X)
  with_last None o = None
  with_last (Some xs) None = None
  with_last (Some xs) (Some x) = Some (xs ++ x ∷ [])

  -- what f gives for each of the first k numbers, or none if it gives none for one
  abbrev pub each_of : (ℕ → Option X) → ℕ → Option (List X)
  each_of f zero = Some []
  each_of f (suc k) = with_last (each_of f k) (f k)

module _ {R : Type 0} where
  -- the cell that an answer says was decided, if one was
  abbrev pub decided_cell : Result (Decision R) Refusal → Option (Option R)
  decided_cell (Ok Undecided) = None
  decided_cell (Ok (Decided x)) = Some x
  decided_cell (Err e) = None

  -- what the participant's node has decided of an item
  abbrev pub decision_at : Held R → ℕ → Result (Decision R) Refusal
  decision_at h c =
      answered (decision_refusal h.world.state.table true h.node c) (decision_of h.world.state.table h.world.values h.node c)

  -- what it has decided of each item, once it has decided all
  abbrev pub results_of : Held R → Option (List (Option R))
  results_of h = each_of (λ c. decided_cell (decision_at h c)) h.world.state.table.m
