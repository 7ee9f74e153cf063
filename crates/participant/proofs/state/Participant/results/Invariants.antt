use Rattle.std.proofs.Common.{◌≡◌, Some, vec_items}
use Rattle.participant.specs.Results.{decided_cell, decision_at, each_of}
use Rattle.participant.proofs.state.Participant.results.Given as goal

-- the items so far are decided, and stand there
abbrev pub invariant-loop-item : goal.invariant-loop-item
invariant-loop-item g l = Some (vec_items l.list) ≡ each_of (λ c. decided_cell (decision_at l.self c)) l.item
