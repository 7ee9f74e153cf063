-- The lines of a whole input, and the text that answers them.
use Rattle.std.specs.Prelude.{ℕ, ◌+◌, List, [], ◌∷◌, ◌++◌}
use Rattle.lines.specs.Fields.{fields}
use Rattle.transcript.specs.Runs.{Standing, fresh, run_served}

-- the lines that count: all but a last one of no octet
abbrev pub counted : List (List ℕ) → List (List ℕ)
counted [] = []
counted ([] ∷ []) = []
counted ((b ∷ bs) ∷ []) = (b ∷ bs) ∷ []
counted (l ∷ (k ∷ ks)) = l ∷ counted (k ∷ ks)

-- the lines of an input, parted at each octet 10
abbrev pub lines_in : List ℕ → List (List ℕ)
lines_in input = counted (fields 10 input)

-- the text that answers lines, one after another, the first of which has this number and comes in this run
abbrev pub answers_from : ℕ → Standing → List (List ℕ) → List ℕ
answers_from n s [] = []
answers_from n s (l ∷ ls) = (run_served s n l).text ++ answers_from (n + 1) (run_served s n l).after ls

-- the text that answers all lines of a run, numbered from 1
abbrev pub answers_to : List (List ℕ) → List ℕ
answers_to ls = answers_from 1 fresh ls
