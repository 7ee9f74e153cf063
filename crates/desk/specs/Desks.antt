-- A desk as plain lists, and what its commands make of it.
use Rattle.std.specs.Prelude.{◌≡◌, ℕ, min, max, Bool, true, cond, not, ◌&&◌, List, [], ◌∷◌, map, take, replicate, Some, None, Ok, Err, Option, Result, nat_lt}
use Rattle.std.specs.List.{range_with_len}
use Rattle.refusal.specs.declared.Refusal.{Refusal}
use Rattle.refusal.specs.declared.Refusal.TheVariants.{BadSize, OutOfTurn}
use Rattle.refusal.specs.Refusals.{refuse, answered}
use Rattle.board.specs.declared.states.Table.{Table}
use Rattle.board.specs.declared.states.Decision.{Decision}
use Rattle.board.specs.Tables.{faulty_at}
use Rattle.board.specs.Looks.{decision_refusal, decision_of}
use Rattle.agreement.specs.declared.states.Setup.{Setup}
use Rattle.agreement.specs.declared.states.Instance.{Instance}
use Rattle.agreement.specs.Setups.{made, opened}
use Rattle.coin.specs.Tosses.{strip_toss}
use Rattle.law.specs.declared.calls.SetupCall.{SetupCall}
use Rattle.law.specs.declared.calls.Call.{Call}
use Rattle.law.specs.declared.calls.Call.TheVariants as call
use Rattle.law.specs.declared.calls.Told.{Told}
use Rattle.law.specs.Runs.{SetupMove, Prepared, setup_answer, setup_after, Move, World, answered_by, after}
use Rattle.law.specs.Law.{Sizes}
use Rattle.play.specs.Played.{bad_sizes}
use Rattle.console.specs.declared.types.Command.{Command}
use Rattle.console.specs.declared.types.Command.TheVariants as command
use Rattle.console.specs.declared.types.Turn.{Turn}
use Rattle.console.specs.declared.types.Turn.TheVariants as turn
use Rattle.desk.specs.declared.stage.Stage.{Stage}
use Rattle.desk.specs.declared.stage.Stage.TheVariants.{Making, Running, Ended}
use Rattle.desk.specs.Views.{Held}
use Rattle.desk.specs.declared.stage.Reply.{Reply}
use Rattle.desk.specs.declared.stage.Reply.TheVariants as reply

-- where a run stands
abbrev pub stage_turn : Option Stage → Turn
stage_turn None = turn.First
stage_turn (Some (Making s)) = turn.Setup
stage_turn (Some (Running i)) = turn.Running
stage_turn (Some (Ended o)) = turn.Ended

abbrev pub turn_of : {R : Type 0} → Held R → Turn
turn_of h = stage_turn h.stage

-- the check of making a desk
abbrev pub size_refusal : ℕ → ℕ → Option Refusal
size_refusal n m = refuse (bad_sizes n m) BadSize None

-- a new desk: a new setup, blank boards, and a strip of one entry, 0
abbrev pub new_desk : {R : Type 0} → (n m : ℕ) → Sizes n m → Held R
new_desk n m sizes = record {
  stage = Some (Making (made n m (sizes.some_node, sizes.few_nodes, sizes.some_item, sizes.few_items)));
  values = replicate 256 None;
  sent = replicate 4096 None;
  marks = replicate 4096 0;
  strip = 0 ∷ [];
}

-- what making a desk answers: the refusal, or else the new desk, whose sizes are right
abbrev pub Makes : {R : Type 0} → ℕ → ℕ → Option Refusal → Result (Held R) Refusal → Type 0
Makes n m None r = (sizes : Sizes n m) × (r ≡ Ok (new_desk n m sizes))
Makes n m (Some e) r = r ≡ Err e

-- What a command leaves: what is replied, and the desk as it then stands.
pub record Served (R : Type 0) : Type 0 where
  pub reply : Result (Reply R) Refusal
  pub held : Held R

-- the strip that a command gives: as many entries as it says, but at least one and at most eight
abbrev pub strip_of : List ℕ → ℕ → List ℕ
strip_of es count = take (min (max count 1) 8) es

module _ {R : Type 0} where
  -- what is replied to a look at node i and item c
  abbrev pub seen_reply : ℕ → ℕ → Result (Decision R) Refusal → Result (Reply R) Refusal
  seen_reply i c (Ok d) = Ok (reply.Decision i c d)
  seen_reply i c (Err e) = Err e

  -- what is replied to a call that has nothing more to say
  abbrev pub done_reply : Result (Told R) Refusal → Result (Reply R) Refusal
  done_reply (Ok t) = Ok reply.Done
  done_reply (Err e) = Err e

  -- a command out of turn is refused and alters nothing
  abbrev pub out_of_turn : Held R → Served R
  out_of_turn h = record { reply = Err OutOfTurn; held = h }

  -- a command that is in turn on a setup alone
  abbrev pub on_setup : Held R → (Setup → Served R) → Option Stage → Served R
  on_setup h f None = out_of_turn h
  on_setup h f (Some (Making s)) = f s
  on_setup h f (Some (Running i)) = out_of_turn h
  on_setup h f (Some (Ended o)) = out_of_turn h

  -- a command that is in turn on an instance alone
  abbrev pub on_instance : Held R → (Instance → Served R) → Option Stage → Served R
  on_instance h f None = out_of_turn h
  on_instance h f (Some (Making s)) = out_of_turn h
  on_instance h f (Some (Running i)) = f i
  on_instance h f (Some (Ended o)) = out_of_turn h

  -- a call on the setup, whose boards are long enough
  abbrev pub setup_move : SetupCall R → SetupMove R
  setup_move k = record { call = k; fits = true }

  -- the setup with its values board
  abbrev pub prepared : Held R → Setup → Prepared R
  prepared h s = record { table = s.table; values = h.values }

  -- the desk with what a call leaves of the setup
  abbrev pub with_setup : Held R → Prepared R → Held R
  with_setup h p = record { stage = Some (Making (record { table = p.table })); values = p.values; sent = h.sent; marks = h.marks; strip = h.strip }

  -- what a call on the setup leaves
  abbrev pub prepares : Held R → SetupCall R → Setup → Served R
  prepares h k s = record {
    reply = done_reply (setup_answer (prepared h s) (setup_move k));
    held = with_setup h (setup_after (prepared h s) (setup_move k));
  }

  -- setting the strip: the latest stands
  abbrev pub strips : Held R → List ℕ → ℕ → Setup → Served R
  strips h es count s = record {
    reply = Ok reply.Done;
    held = record { stage = h.stage; values = h.values; sent = h.sent; marks = h.marks; strip = strip_of es count };
  }

  -- opening the setup
  abbrev pub opens : Held R → Setup → Served R
  opens h s = record {
    reply = Ok reply.Done;
    held = record { stage = Some (Running (opened s)); values = h.values; sent = h.sent; marks = h.marks; strip = h.strip };
  }

  -- ending the instance
  abbrev pub ends : Held R → Instance → Served R
  ends h i = record {
    reply = Ok reply.Rows;
    held = record { stage = Some (Ended (record { table = i.table })); values = h.values; sent = h.sent; marks = h.marks; strip = h.strip };
  }

  -- what a node's decision of an item is replied as
  abbrev pub looks : Held R → ℕ → ℕ → Table → Served R
  looks h i c t = record { reply = seen_reply i c (answered (decision_refusal t true i c) (decision_of t h.values i c)); held = h }

  -- a look is in turn on an instance and on an outcome
  abbrev pub on_table : Held R → (Table → Served R) → Option Stage → Served R
  on_table h f None = out_of_turn h
  on_table h f (Some (Making s)) = out_of_turn h
  on_table h f (Some (Running i)) = f i.table
  on_table h f (Some (Ended o)) = f o.table

  -- the instance with its boards
  abbrev pub world : Held R → Instance → World R
  world h i = record { state = i; values = h.values; sent = h.sent; marks = h.marks }

  -- the desk with what a call leaves of the instance
  abbrev pub with_world : Held R → World R → Held R
  with_world h w = record { stage = Some (Running w.state); values = w.values; sent = w.sent; marks = w.marks; strip = h.strip }

  -- a call on the instance, whose boards are long enough, and whose coin is this strip
  abbrev pub strip_move : List ℕ → Call R → Move R
  strip_move es k = record { call = k; tosses = λ node round item. strip_toss es round item; fits = true }

module _ {R : Type 0} (meaning : R → ℕ) where
  -- what a send or a close leaves
  abbrev pub acts : Held R → Call R → Instance → Served R
  acts h k i = record {
    reply = done_reply (answered_by (world h i) true k);
    held = with_world h (after meaning (world h i) (strip_move h.strip k));
  }

  -- what a call after the opening leaves; no line asks how many items are undecided
  abbrev pub serve_call : Held R → Call R → Served R
  serve_call h (call.SendValue i j c x) = on_instance h (acts h (call.SendValue i j c x)) h.stage
  serve_call h (call.SendBit i j c b) = on_instance h (acts h (call.SendBit i j c b)) h.stage
  serve_call h (call.SendFinal i j) = on_instance h (acts h (call.SendFinal i j)) h.stage
  serve_call h call.Close = on_instance h (acts h call.Close) h.stage
  serve_call h (call.Decision i c) = on_table h (looks h i c) h.stage
  serve_call h (call.Undecided places) = out_of_turn h

  -- what a command leaves
  abbrev pub serve : Held R → Command R → Served R
  serve h (command.Make n m kind) = out_of_turn h
  serve h (command.Prepare k) = on_setup h (prepares h k) h.stage
  serve h (command.Strip es count) = on_setup h (strips h es count) h.stage
  serve h command.Open = on_setup h (opens h) h.stage
  serve h (command.Call k) = serve_call h k
  serve h command.End = on_instance h (ends h) h.stage

-- whether a node has a row after the end: it is one of the run's, and honest
abbrev pub has_row : Table → ℕ → Bool
has_row t i = nat_lt i t.n && not (faulty_at t i)

module _ {R : Type 0} where
  -- a node's row: its decision of each item; nothing for a node that has none
  abbrev pub results_of : Table → List (Option R) → ℕ → List (Decision R)
  results_of t values i = cond (has_row t i) (map (decision_of t values i) (range_with_len 0 t.m)) []

  abbrev pub stage_row : List (Option R) → ℕ → Option Stage → List (Decision R)
  stage_row values i None = []
  stage_row values i (Some (Making s)) = []
  stage_row values i (Some (Running w)) = []
  stage_row values i (Some (Ended o)) = results_of o.table values i

  -- a node's row on a desk: there are rows after the end alone
  abbrev pub row_of : Held R → ℕ → List (Decision R)
  row_of h i = stage_row h.values i h.stage
