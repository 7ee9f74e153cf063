-- What the calls on a participant leave.
use Rattle.std.proofs.Common.{◌≡◌, ℕ, true, List, ◌++◌, length, drop, replicate, Some, None, Ok, Option, Result, ap, ◌∙◌, subst, arith}
use lib.ListN.{length-replicate}
use Rattle.refusal.specs.declared.Refusal.{Refusal}
use Rattle.refusal.specs.declared.Fault.{Fault}
use Rattle.refusal.specs.Refusals.{answered}
use Rattle.coin.specs.Tosses.{strip_toss}
use Rattle.board.specs.Setups.{if_accepted}
use Rattle.hearing.specs.Rooms.{boards_fit}
use Rattle.agreement.specs.declared.states.Instance.{Instance}
use Rattle.agreement.specs.Calls.{close_refusal}
use Rattle.agreement.specs.Done.{CloseDone}
use Rattle.law.specs.declared.calls.Call.{Call}
use Rattle.law.specs.declared.calls.Call.TheVariants as call
use Rattle.law.specs.declared.calls.Told.{Told}
use Rattle.law.specs.Runs.{World, effect, run, history, after}
use Rattle.play.specs.Moves.{call_says}
use Rattle.wire.specs.Messages.{Parts}
use Rattle.relay.specs.Deliveries.{calls_of, deliver_refusal, lent, Delivers}
use Rattle.participant.specs.Held.{Held}
use Rattle.participant.specs.Participants.{hear_refusal, heard_calls, strip_move, strip_moves, with_world}
use Rattle.participant.proofs.BoardLaws.{Long, cells_fit, pairs_fit, moves_fit}

-- a strip that was made stands over the entries that it was given
pub strip_entries : (o : Option Refusal) (es xs : List ℕ) → Ok es ≡ answered o xs → es ≡ xs
strip_entries None es xs e = cc
strip_entries (Some d) es xs e = absurd (let z : ◌≡◌ {A = ℕ} 0 1 = cc in omega arith)

-- what a close answers, and what it leaves
pub record Closes {R : Type 0} (meaning : R → ℕ) (h h' : Held R) (r : Result (Unit {0}) Refusal) : Type 0 where
  pub answer : r ≡ answered (close_refusal h.world.state true) tt
  pub held : h' ≡ with_world h (after meaning h.world (strip_move h.strip call.Close))

-- what stands after a call, part by part
world_if : {R : Type 0} (o : Option Refusal) (s s' x : Instance) (values values' y sent : List (Option R)) (marks marks' z : List ℕ)
    → s' ≡ if_accepted o x s → values' ≡ if_accepted o y values → marks' ≡ if_accepted o z marks
    → ◌≡◌ {A = World R} (record { state = s'; values = values'; sent = sent; marks = marks' })
    (if_accepted o (record { state = x; values = y; sent = sent; marks = z }) (record { state = s; values = values; sent = sent; marks = marks }))
world_if None s s' x values values' y sent marks marks' z a b c = cc
world_if (Some e) s s' x values values' y sent marks marks' z a b c = cc

-- the parts of a participant after a call
abbrev pub then_held : {R : Type 0} → Held R → Instance → List (Option R) → List (Option R) → List ℕ → Held R
then_held h s values sent marks = record { node = h.node; world = record { state = s; values = values; sent = sent; marks = marks }; strip = h.strip }

module _ {R : Type 0} (meaning : R → ℕ) (h : Held R) where
  pub closed : (s' : Instance) (values' scratch scratch' : List (Option R)) (marks' : List ℕ) (r : Result (Unit {0}) Refusal)
      → Long (lent h.world.values scratch h.world.sent h.world.marks)
      → CloseDone meaning (λ node round item. strip_toss h.strip round item)
      (close_refusal h.world.state (boards_fit h.world.state.table h.world.values scratch h.world.sent h.world.marks))
      h.world.state s' h.world.values values' scratch scratch' h.world.sent h.world.marks marks' r
      → Closes meaning h (then_held h s' values' h.world.sent marks') r
  unfolding after
  closed s' values' scratch scratch' marks' r l d =
      let t = h.world.state.table in
      let fit : boards_fit t h.world.values scratch h.world.sent h.world.marks ≡ true =
      rw (cells_fit t h.world.values l.values, cells_fit t scratch l.scratch, pairs_fit t h.world.sent l.sent, pairs_fit t h.world.marks l.marks) in
      let o = close_refusal h.world.state (boards_fit t h.world.values scratch h.world.sent h.world.marks) in
      let f : Option Refusal → Held R = λ x. with_world h (if_accepted x (effect meaning (λ node round item. strip_toss h.strip round item) h.world call.Close) h.world) in
      record {
        answer = d.answer ∙ ap (λ b. answered (close_refusal h.world.state b) tt) fit;
        held = ap (with_world h) (world_if o h.world.state s' _ h.world.values values' _ h.world.sent h.world.marks marks' _ d.state d.to_values d.to_marks)
            ∙ ap (λ b. f (close_refusal h.world.state b)) fit;
      }

-- what hearing answers, and what it leaves
pub record Hears {R : Type 0} (meaning : R → ℕ) (w : ℕ) (reads : List ℕ → Option R) (h h' : Held R) (q : Result Parts Fault) (old answers : List (Result (Told R) Refusal)) (r : Result ℕ Refusal) : Type 0 where
  pub answer : r ≡ answered (hear_refusal w reads h (length old) q) (length (heard_calls w reads h q))
  pub held : h' ≡ if_accepted (hear_refusal w reads h (length old) q) (with_world h (run meaning h.world (strip_moves h.strip (heard_calls w reads h q)))) h
  pub said : answers ≡ if_accepted (hear_refusal w reads h (length old) q) (call_says (history meaning h.world (strip_moves h.strip (heard_calls w reads h q))) ++ drop (length (heard_calls w reads h q)) old) old

module _ {R : Type 0} (meaning : R → ℕ) (w : ℕ) (reads : List ℕ → Option R) (h : Held R) where
  -- a message that was read is delivered
  module _ (s' : Instance) (sent' : List (Option R)) (marks' : List ℕ) (ks : List (Call R)) (old answers : List (Result (Told R) Refusal)) (l : Long (lent h.world.values (replicate 256 None) h.world.sent h.world.marks)) where
    delivered_held : (o : Option Refusal) → Delivers meaning h.world.state s' h.world.sent sent' h.world.marks marks' o ks old answers
        → then_held h s' h.world.values sent' marks' ≡ if_accepted o (with_world h (run meaning h.world (strip_moves h.strip ks))) h
    delivered_held None d =
        ap (with_world h) (d.world (λ node round item. strip_toss h.strip round item) h.world.values (replicate 256 None)
        ∙ ap (run meaning h.world) (moves_fit h.world.state.table (lent h.world.values (replicate 256 None) h.world.sent h.world.marks) l h.strip ks))
    delivered_held (Some e) d =
        ap (λ x. then_held h x h.world.values sent' marks') d.0
        ∙ ap (λ x. then_held h h.world.state h.world.values x marks') d.1
        ∙ ap (λ x. then_held h h.world.state h.world.values h.world.sent x) d.2

    delivered_said : (o : Option Refusal) → Delivers meaning h.world.state s' h.world.sent sent' h.world.marks marks' o ks old answers
        → answers ≡ if_accepted o (call_says (history meaning h.world (strip_moves h.strip ks)) ++ drop (length ks) old) old
    delivered_said None d =
        d.answers_are (λ node round item. strip_toss h.strip round item) h.world.values (replicate 256 None)
        ∙ ap (λ vs. call_says (history meaning h.world vs) ++ drop (length ks) old)
        (moves_fit h.world.state.table (lent h.world.values (replicate 256 None) h.world.sent h.world.marks) l h.strip ks)
    delivered_said (Some e) d = d.3

  pub heard : (p : Parts) (q : Result Parts Fault) (s' : Instance) (sent' : List (Option R)) (marks' : List ℕ) (old answers : List (Result (Told R) Refusal)) (r : Result ℕ Refusal)
      → length h.world.values ≡ 256 → length h.world.sent ≡ 4096 → length h.world.marks ≡ 4096 → Ok p ≡ q
      → r ≡ answered (deliver_refusal w reads h.node p h.world.state (length old)) (length (calls_of w reads h.node p))
      → Delivers meaning h.world.state s' h.world.sent sent' h.world.marks marks' (deliver_refusal w reads h.node p h.world.state (length old)) (calls_of w reads h.node p) old answers
      → Hears meaning w reads h (then_held h s' h.world.values sent' marks') q old answers r
  heard p q s' sent' marks' old answers r lv ls lm e a d =
      let l : Long (lent h.world.values (replicate 256 None) h.world.sent h.world.marks) = record { values = lv; scratch = length-replicate {A = Option R} 256 None; sent = ls; marks = lm } in
      let o = deliver_refusal w reads h.node p h.world.state (length old) in
      subst (λ x. Hears meaning w reads h (then_held h s' h.world.values sent' marks') x old answers r) e
      (record {
        answer = a;
        held = delivered_held s' sent' marks' (calls_of w reads h.node p) old answers l o d;
        said = delivered_said s' sent' marks' (calls_of w reads h.node p) old answers l o d;
      })
