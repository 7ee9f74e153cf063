-- What a participant hears and sends, as lists of numbers.
use Rattle.std.proofs.Common.{◌≡◌, ℕ, ◌≤◌, List, ◌++◌, map, length, take, drop, Some, None, Ok, Err, Option, Result, sym, refl, ap, ◌∙◌, arith}
use Rattle.std.proofs.lemmas.List.{take_at, length-append, length-map}
use Rattle.refusal.specs.declared.Refusal.{Refusal}
use Rattle.refusal.specs.Refusals.{answered}
use Rattle.board.specs.Setups.{if_accepted}
use Rattle.law.specs.declared.calls.Told.{Told}
use Rattle.law.specs.declared.calls.Call.{Call}
use Rattle.law.specs.Runs.{run, history}
use Rattle.play.specs.Moves.{call_says}
use Rattle.play.proofs.Pushes.{length_says}
use Rattle.participant.specs.Held.{Held}
use Rattle.participant.specs.Participants.{heard_parts, hear_refusal, heard_calls, strip_move, strip_moves, with_world}
use Rattle.lamphouse.specs.Runs.{answer_number, HeardSo}

-- octets that were written to the front of a place
pub placed_front : (o : Option Refusal) (os place place' : List ℕ) (k : ℕ) → Ok k ≡ answered o (length os) → place' ≡ if_accepted o (os ++ drop (length os) place) place
    → Ok (take k place') ≡ answered o os
placed_front None os place place' k e p =
    let n : length os ≡ k = cc in
    ap Ok (ap (take k) p ∙ take_at os (drop (length os) place) k n)
placed_front (Some d) os place place' k e p = absurd (let z : ◌≡◌ {A = ℕ} 0 1 = cc in omega arith)

-- a refusal does not depend on what is not given
pub refused_alike : {X Y : Type 0} (o : Option Refusal) (d : Refusal) (x : X) (y : Y) → Err d ≡ answered o x → Err d ≡ answered o y
refused_alike None d x y e = absurd (let z : ◌≡◌ {A = ℕ} 0 1 = cc in omega arith)
refused_alike (Some b) d x y e = let q : d ≡ b = cc in ap Err q

-- answers that were written to the front of a list
written_front : {X : Type 0} (o : Option Refusal) (xs old new : List X) (n k : ℕ) → length xs ≡ n → Ok k ≡ answered o n → new ≡ if_accepted o (xs ++ drop n old) old
    → (o ≡ None) × (take k new ≡ xs) × (k ≤ length new)
written_front None xs old new n k l e p =
    let q : k ≡ n = cc in
    let long = length-append xs (drop n old) in
    let all : length new ≡ length (xs ++ drop n old) = ap length p in
    (refl, ap (take k) p ∙ take_at xs (drop n old) k (omega arith), omega arith)
written_front (Some d) xs old new n k l e p = absurd (let z : ◌≡◌ {A = ℕ} 0 1 = cc in omega arith)

module _ {R : Type 0} (meaning : R → ℕ) (w : ℕ) (reads : List ℕ → Option R) (h h' : Held R) (o : List ℕ) (old new : List (Result (Told R) Refusal)) where
  -- the calls of the message
  abbrev calls : List (Call R)
  calls = heard_calls w reads h (heard_parts w reads h o)

  -- what they answered
  abbrev said : List (Result (Told R) Refusal)
  said = call_says (history meaning h.world (strip_moves h.strip calls))

  abbrev why : Option Refusal
  why = hear_refusal w reads h (length old) (heard_parts w reads h o)

  said_long : length said ≡ length calls
  said_long = length_says meaning h.world (strip_moves h.strip calls) ∙ length-map calls (strip_move h.strip)

  pub count_within : (k : ℕ) → Ok k ≡ answered why (length calls) → new ≡ if_accepted why (said ++ drop (length calls) old) old → k ≤ length new
  count_within k e a = (written_front why said old new (length calls) k said_long e a).2

  pub heard_accepted : (k : ℕ) (numbers : List ℕ) → Ok k ≡ answered why (length calls)
      → h' ≡ if_accepted why (with_world h (run meaning h.world (strip_moves h.strip calls))) h
      → new ≡ if_accepted why (said ++ drop (length calls) old) old → numbers ≡ map answer_number (take k new)
      → HeardSo meaning w reads (length old) h h' o (Ok numbers)
  heard_accepted k numbers e l a n =
      let x = written_front why said old new (length calls) k said_long e a in
      record {
        numbers = ap Ok (n ∙ ap (map answer_number) x.1) ∙ sym (ap (λ y. answered y (map answer_number said)) x.0);
        left = l;
      }

  pub heard_refused : (d : Refusal) → Err d ≡ answered why (length calls)
      → h' ≡ if_accepted why (with_world h (run meaning h.world (strip_moves h.strip calls))) h
      → HeardSo meaning w reads (length old) h h' o (Err d)
  heard_refused d e l = record { numbers = refused_alike why d (length calls) (map answer_number said) e; left = l }
