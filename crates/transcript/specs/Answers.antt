-- What a line of an agreement is answered by, and what it leaves.
use Rattle.std.specs.Prelude.{ℕ, List, [], Ok, Err, Option, Result}
use Rattle.refusal.specs.declared.Refusal.{Refusal}
use Rattle.refusal.specs.declared.Fault.{Fault}
use Rattle.spelling.specs.Answers.{refused_text, look_text}
use Rattle.console.specs.declared.types.Command.{Command}
use Rattle.console.specs.Grammar.{parsed}
use Rattle.desk.specs.declared.stage.Reply.{Reply}
use Rattle.desk.specs.declared.stage.Reply.TheVariants.{Done, Decision, Rows}
use Rattle.desk.specs.Views.{Held}
use Rattle.desk.specs.Desks.{Served, serve, turn_of}
use Rattle.transcript.specs.Rows.{rows_text}

-- What an input leaves: the text that answers it, and the state after it.
pub record Answer (S : Type 0) : Type 0 where
  pub text : List ℕ
  pub after : S

-- a refused line is answered by its number and the refusal's, and alters nothing
abbrev pub refuses : {S : Type 0} → S → ℕ → Refusal → Answer S
refuses s line e = record { text = refused_text line e; after = s }

module _ {R : Type 0} (spelled : R → List ℕ) where
  -- what is written of a desk's reply to a line
  abbrev pub reply_text : ℕ → Held R → Result (Reply R) Refusal → List ℕ
  reply_text line h (Ok Done) = []
  reply_text line h (Ok (Decision node item d)) = look_text spelled line node item d
  reply_text line h (Ok Rows) = rows_text spelled h
  reply_text line h (Err e) = refused_text line e

  -- what is written of a command that was run, and the desk that it leaves
  abbrev pub told : ℕ → Served R → Answer (Held R)
  told line s = record { text = reply_text line s.held s.reply; after = s.held }

  -- a line's command is run on the desk; a line with a fault is refused
  abbrev pub served_by : (R → ℕ) → Held R → ℕ → Result (Command R) Fault → Answer (Held R)
  served_by meaning h line (Ok k) = told line (serve meaning h k)
  served_by meaning h line (Err f) = refuses h line f.refusal

  -- what a line of a run on a desk is answered by, and the desk that it leaves
  unfoldable pub served : (R → ℕ) → (List ℕ → Option R) → Held R → ℕ → List ℕ → Answer (Held R)
  served meaning parses h line octets = served_by meaning h line (parsed parses (turn_of h) octets)
