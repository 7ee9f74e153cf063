-- A harbour: what the octets that come in are answered by, and what they leave.
use Rattle.std.specs.Prelude.{ℕ, ◌≤◌, Bool, true, false, cond, List, [], ◌∷◌, ◌++◌, length, Some, None, Option, IfSome, ◌==◌}
use Rattle.refusal.specs.declared.Refusal.TheVariants.{Torn}
use Rattle.lines.specs.Gathered.{empty, pushed}
use Rattle.lines.specs.Coming.{Coming, next}
use Rattle.transcript.specs.Answers.{Answer, refuses}
use Rattle.transcript.specs.Runs.{Standing, seen_as, run_served}

-- A harbour between two octets: the number of the line that is coming in, what has come of it (none: too much), whether anything has, and the run.
pub record View : Type 0 where
  pub number : ℕ
  pub line : Option (List ℕ)
  pub begun : Bool
  pub run : Standing

-- what has come of the line finds room: at most 60 octets
abbrev pub HasRoom : View → Type 0
HasRoom v = IfSome v.line (λ os. length os ≤ 60)

-- a harbour by the line that is coming in, and its run
abbrev pub seen : Coming → Standing → View
seen c s = record { number = c.number; line = c.octets; begun = c.begun; run = s }

-- the harbour before a line of which nothing has come
abbrev pub before : ℕ → Standing → View
before n s = record { number = n; line = empty; begun = false; run = s }

-- what a line that has come in is answered by; one of too many octets is torn
abbrev pub line_served : Standing → ℕ → Option (List ℕ) → Answer Standing
line_served s n None = refuses s n Torn
line_served s n (Some octets) = run_served s n octets

-- the end of a line; the number of the next has 64 bits
unfoldable pub ended : View → Answer View
ended v = seen_as (before (next v.number)) (line_served v.run v.number v.line)

-- an octet of a line that says nothing yet
abbrev pub gathers : View → ℕ → Answer View
gathers v b = record { text = []; after = record { number = v.number; line = pushed 60 v.line b; begun = true; run = v.run } }

-- one octet: 10 ends the line
abbrev pub took : View → ℕ → Answer View
took v b = cond (b == 10) (ended v) (gathers v b)

-- one answer after another
abbrev pub followed : {S : Type 0} → Answer S → (S → Answer S) → Answer S
followed a f = record { text = a.text ++ (f a.after).text; after = (f a.after).after }

-- nothing was answered
abbrev pub silent : {S : Type 0} → S → Answer S
silent s = record { text = []; after = s }

-- octets, one after another
abbrev pub fed : View → List ℕ → Answer View
fed v [] = silent v
fed v (b ∷ bs) = followed (took v b) (λ w. fed w bs)

-- the end of the input: a last line without octet 10 counts if anything of it has come
abbrev pub finished : View → Answer View
finished v = cond v.begun (ended v) (silent v)
