-- A run of either kind: what its lines are answered by, and what they leave.
use Rattle.std.specs.Prelude.{◌≡◌, ℕ, Bool, true, false, ◌||◌, List, [], ◌++◌, Some, None, Ok, Err, Option, Result, ◌==◌, nat_lt, refl}
use Rattle.std.proofs.Common.{arith}
use Rattle.std.proofs.lemmas.Bool.{eqb-false, ltb-false, or_parts}
use Rattle.refusal.specs.declared.Refusal.{Refusal}
use Rattle.refusal.specs.declared.Refusal.TheVariants.{BadSize, OutOfTurn}
use Rattle.refusal.specs.declared.Fault.{Fault}
use Rattle.reading.specs.declared.bearing.Bearing.{Bearing}
use Rattle.reading.specs.declared.lamp.Lamp.{Lamp}
use Rattle.reading.specs.Bearings.{bearing_meaning}
use Rattle.reading.specs.Lamps.{lamp_meaning}
use Rattle.law.specs.Law.{Sizes}
use Rattle.play.specs.Played.{bad_sizes}
use Rattle.spelling.specs.Bearings.{bearing_in, bearing_text}
use Rattle.spelling.specs.Lamps.{lamp_in, lamp_text}
use Rattle.reading.specs.declared.kind.Kind.{Kind}
use Rattle.reading.specs.declared.kind.Kind.TheVariants as kind
use Rattle.console.specs.declared.types.Turn.TheVariants.{First}
use Rattle.console.specs.declared.types.Command.{Command}
use Rattle.console.specs.declared.types.Command.TheVariants as command
use Rattle.console.specs.Grammar.{parsed}
use Rattle.desk.specs.Desks.{new_desk}
use Rattle.desk.specs.Views.{Held}
use Rattle.transcript.specs.declared.types.Run.{Run}
use Rattle.transcript.specs.declared.types.Run.TheVariants.{Bearings, Lamps}
use Rattle.transcript.specs.Answers.{Answer, refuses, served}

-- A run as it stands between two lines: nothing is made yet, or the desk of a kind.
pub data Standing : Type 0 where
  fresh : Standing
  bearings : Held Bearing → Standing
  lamps : Held Lamp → Standing

abbrev pub standing : Option Run → Standing
standing None = fresh
standing (Some (Bearings d)) = bearings d
standing (Some (Lamps d)) = lamps d

-- sizes that are not bad are right
pub right_sizes : (n m : ℕ) → bad_sizes n m ≡ false → Sizes n m
right_sizes n m e =
    let a = or_parts (n == 0 || nat_lt 16 n || m == 0) (nat_lt 16 m) e in
    let b = or_parts (n == 0 || nat_lt 16 n) (m == 0) a.0 in
    let c = or_parts (n == 0) (nat_lt 16 n) b.0 in
    record {
      some_node = omega (arith, eqb-false n 0 c.0);
      few_nodes = ltb-false 16 n c.1;
      some_item = omega (arith, eqb-false m 0 b.1);
      few_items = ltb-false 16 m a.1;
    }

-- a run of a kind on a new desk
abbrev pub new_run : Kind → (n m : ℕ) → Sizes n m → Standing
new_run kind.Bearings n m sizes = bearings (new_desk n m sizes)
new_run kind.Lamps n m sizes = lamps (new_desk n m sizes)

-- the new run where a test does not hit that shows its sizes to be right
abbrev pub run_unless : (n m : ℕ) → Kind → (bad : Bool) → (bad ≡ false → Sizes n m) → Result Standing Refusal
run_unless n m k true shown = Err BadSize
run_unless n m k false shown = Ok (new_run k n m (shown refl))

-- what N makes: a new run, unless its sizes are bad
abbrev pub made_run : ℕ → ℕ → Kind → Result Standing Refusal
made_run n m k = run_unless n m k (bad_sizes n m) (right_sizes n m)

-- the run that a first line makes: N alone is in turn
abbrev pub first_by : Result (Command Bearing) Fault → Result Standing Refusal
first_by (Ok (command.Make n m k)) = made_run n m k
first_by (Ok (command.Prepare k)) = Err OutOfTurn
first_by (Ok (command.Strip es count)) = Err OutOfTurn
first_by (Ok command.Open) = Err OutOfTurn
first_by (Ok (command.Call k)) = Err OutOfTurn
first_by (Ok command.End) = Err OutOfTurn
first_by (Err f) = Err f.refusal

unfoldable pub first_run : List ℕ → Result Standing Refusal
first_run octets = first_by (parsed bearing_in First octets)

-- a first line that makes a run says nothing
abbrev pub begins : ℕ → Result Standing Refusal → Answer Standing
begins line (Ok s) = record { text = []; after = s }
begins line (Err e) = refuses fresh line e

-- the same text, and the state after it seen otherwise
abbrev pub seen_as : {S T : Type 0} → (S → T) → Answer S → Answer T
seen_as f a = record { text = a.text; after = f a.after }

-- what a line of a run is answered by, and the run that it leaves
unfoldable pub run_served : Standing → ℕ → List ℕ → Answer Standing
run_served fresh line octets = begins line (first_run octets)
run_served (bearings h) line octets = seen_as bearings (served bearing_text bearing_meaning bearing_in h line octets)
run_served (lamps h) line octets = seen_as lamps (served lamp_text lamp_meaning lamp_in h line octets)

-- the text was added behind the old one, and the state is the one after it; of what found no memory nothing is said
abbrev pub Answers : {X E S : Type 0} → Result X E → List ℕ → List ℕ → S → Answer S → Type 0
Answers (Ok x) old new s a = (new ≡ old ++ a.text) × (s ≡ a.after)
Answers (Err e) old new s a = Unit {0}
