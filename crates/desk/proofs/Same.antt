-- Two views of a desk are the same if their parts are.
use Rattle.std.proofs.Common.{◌≡◌, ℕ, List, Option}
use Rattle.desk.specs.declared.stage.Stage.{Stage}
use Rattle.desk.specs.Views.{Held}

pub same_held : {R : Type 0} (s s' : Option Stage) (v v' w w' : List (Option R)) (k k' es es' : List ℕ) → s ≡ s' → v ≡ v' → w ≡ w' → k ≡ k' → es ≡ es'
    → ◌≡◌ {A = Held R} (record { stage = s; values = v; sent = w; marks = k; strip = es }) (record { stage = s'; values = v'; sent = w'; marks = k'; strip = es' })
same_held s s' v v' w w' k k' es es' e1 e2 e3 e4 e5 = cc
