-- What a line holds while its octets come in.
use Rattle.std.specs.Prelude.{ℕ, ◌≤◌, Bool, true, false, cond, List, [], ◌∷◌, ◌++◌, length, Some, None, Ok, Err, Option, Result, IfSome, nat_le, nat_lt}
use Rattle.refusal.specs.declared.Refusal.{Refusal}
use Rattle.refusal.specs.declared.Refusal.TheVariants.{Torn}

-- a line as its octets come in: how many it takes at most, and those that have come, or none if there were too many
pub record Gathered : Type 0 where
  pub limit : ℕ
  pub octets : Option (List ℕ)

-- what a line keeps finds room: at most `limit` octets, and never more than 200
pub record HasRoom (g : Gathered) : Type 0 where
  pub kept : IfSome g.octets (λ os. length os ≤ g.limit)
  pub room : g.limit ≤ 200

-- what an empty line holds
abbrev pub empty : Option (List ℕ)
empty = Some []

-- whether an octet of a line has come
abbrev pub begun : Option (List ℕ) → Bool
begun None = true
begun (Some []) = false
begun (Some (b ∷ bs)) = true

-- what a line of at most `limit` octets holds after one more octet
abbrev pub pushed : ℕ → Option (List ℕ) → ℕ → Option (List ℕ)
pushed limit None b = None
pushed limit (Some bs) b = cond (nat_lt (length bs) limit) (Some (bs ++ (b ∷ []))) None

-- what a line of at most `limit` octets holds after these octets
abbrev pub gathered : ℕ → List ℕ → Option (List ℕ)
gathered limit bs = cond (nat_le (length bs) limit) (Some bs) None

-- the line that is taken: its octets, and torn if there are none or too many
abbrev pub line_answer : Option (List ℕ) → Result (List ℕ) Refusal
line_answer None = Err Torn
line_answer (Some []) = Err Torn
line_answer (Some (b ∷ bs)) = Ok (b ∷ bs)
