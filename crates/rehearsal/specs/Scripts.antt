-- What is known of the answers of a script that was played.
use Rattle.std.specs.Prelude.{ℕ, List, length, drop, Result}
use Rattle.refusal.specs.declared.Refusal.{Refusal}
use Rattle.law.specs.declared.calls.SetupCall.{SetupCall}
use Rattle.law.specs.declared.calls.Call.{Call}
use Rattle.law.specs.declared.calls.Told.{Told}
use Rattle.law.specs.Runs.{Tosses}
use Rattle.law.specs.Law.{Sizes}
use Rattle.play.specs.Moves.{Lent}
use Rattle.play.specs.Played.{paired_setup, paired, Lawful}

-- the law holds of the calls of a script with these answers, those of the setup first
abbrev pub AnswersLawful : {R : Type 0} → (R → ℕ) → Tosses → ℕ → ℕ → List (SetupCall R) → List (Call R) → List (Result (Told R) Refusal) → Type 0
AnswersLawful {R} meaning f n m ks cs answers =
    (sizes : Sizes n m) × (b : Lent R) × Lawful meaning f n m ks cs sizes b (paired_setup ks answers) (paired cs (drop (length ks) answers))
