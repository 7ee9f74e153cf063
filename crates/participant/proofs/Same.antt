-- Two views of a participant are the same if their parts are.
use Rattle.std.proofs.Common.{◌≡◌, ℕ, List, Option}
use Rattle.agreement.specs.declared.states.Instance.{Instance}
use Rattle.participant.specs.Held.{Held}

pub same_held : {R : Type 0} (i : ℕ) (s s' : Instance) (v v' w w' : List (Option R)) (k k' es es' : List ℕ) → s ≡ s' → v ≡ v' → w ≡ w' → k ≡ k' → es ≡ es'
    → ◌≡◌ {A = Held R} (record { node = i; world = record { state = s; values = v; sent = w; marks = k }; strip = es }) (record { node = i; world = record { state = s'; values = v'; sent = w'; marks = k' }; strip = es' })
same_held i s s' v v' w w' k k' es es' a b c d e = cc
