-- The lines of a run of one node: their fields, and what they answer.
use Rattle.std.specs.Prelude.{◌≡◌, ℕ, not, ◌||◌, List, map, length, drop, Some, None, Ok, Err, Option, Result, ◌==◌, nat_lt}
use Rattle.std.specs.List.{slice_get}
use Rattle.std.specs.Option.{ok_or}
use Rattle.refusal.specs.declared.Refusal.{Refusal}
use Rattle.refusal.specs.declared.Refusal.TheVariants.{Torn, StrangeLetter, StrangeReading}
use Rattle.refusal.specs.Refusals.{number, refuse, unless, answered}
use Rattle.board.specs.Setups.{if_accepted}
use Rattle.law.specs.declared.calls.Told.{Told}
use Rattle.law.specs.Runs.{run, history}
use Rattle.play.specs.Moves.{call_says}
use Rattle.lines.specs.Digits.{and_then, hex_octets_of}
use Rattle.lines.specs.Fields.{number_at}
use Rattle.reading.specs.declared.kind.Kind.{Kind}
use Rattle.participant.specs.declared.state.Participant.{Participant}
use Rattle.participant.specs.Held.{Held}
use Rattle.participant.specs.Participants.{begin_refusal, Begins, heard_parts, hear_refusal, heard_calls, strip_moves, with_world}
use Rattle.lamphouse.specs.declared.begin.Start.{Start}
use Rattle.lamphouse.specs.Grammar.{all_of, cell_of, entries_of}
use Rattle.lamphouse.specs.Kinds.{kind_at}

-- the kind of a run that a line begins: field 1, where there are 7 to 22 fields
abbrev pub begin_kind : List (List ℕ) → Result Kind Refusal
begin_kind fs = unless (refuse (nat_lt (length fs) 7 || nat_lt 22 (length fs)) Torn None) (ok_or (kind_at fs 1) StrangeReading)

-- the sizes of a run and its node: fields 2 to 4
abbrev pub start_of : List (List ℕ) → Option Start
start_of fs =
    and_then (number_at fs 2) (λ n.
    and_then (number_at fs 3) (λ m.
    and_then (number_at fs 4) (λ node.
    Some (record { n = n; m = m; node = node }))))

-- What a line that begins a run says.
pub record Beginning (R : Type 0) : Type 0 where
  pub start : Start
  pub entries : List ℕ
  pub cells : List (Option R)

module _ {R : Type 0} where
  -- what a line with these fields says: the strip's entries stand in field 5, the cells in those from 6 on
  abbrev pub beginning_of : (List ℕ → Option R) → List (List ℕ) → Option (Beginning R)
  beginning_of reads fs =
      and_then (start_of fs) (λ s.
      and_then (and_then (slice_get fs 5) entries_of) (λ es.
      and_then (all_of (cell_of reads) (drop 6 fs)) (λ cells.
      Some (record { start = s; entries = es; cells = cells }))))

  -- what a line answers that says this: the participant that begins so, and strange where a part was not read
  abbrev pub LineBegins : Option (Beginning R) → Result (Participant R) Refusal → Type 0
  LineBegins None a = a ≡ Err StrangeReading
  LineBegins (Some b) a =
      Begins b.start.n b.start.m b.start.node b.entries b.cells
      (begin_refusal b.start.n b.start.m b.start.node (length b.entries) (length b.cells)) a

-- the octets of a message that a line gives: field 1 of two
abbrev pub heard_octets : List (List ℕ) → Result (List ℕ) Refusal
heard_octets fs = unless (refuse (not (length fs == 2)) Torn None) (ok_or (and_then (slice_get fs 1) (hex_octets_of 100)) StrangeReading)

-- the check of a line that closes a step: its letter stands alone, and means nothing before more fields
abbrev pub step_refusal : List (List ℕ) → Option Refusal
step_refusal fs = refuse (not (length fs == 1)) StrangeLetter None

-- the number of an answer: that of its refusal, or else 0
abbrev pub answer_number : {R : Type 0} → Result (Told R) Refusal → ℕ
answer_number (Ok t) = 0
answer_number (Err e) = number e

-- What hearing octets as a message leaves: the number of what each call answered, where there are so many places for answers, and the participant after those calls.
pub record HeardSo {R : Type 0} (meaning : R → ℕ) (w : ℕ) (reads : List ℕ → Option R) (places : ℕ) (h h' : Held R) (o : List ℕ) (r : Result (List ℕ) Refusal) : Type 0 where
  pub numbers : r ≡ answered (hear_refusal w reads h places (heard_parts w reads h o))
      (map answer_number (call_says (history meaning h.world (strip_moves h.strip (heard_calls w reads h (heard_parts w reads h o))))))
  pub left : h' ≡ if_accepted (hear_refusal w reads h places (heard_parts w reads h o))
      (with_world h (run meaning h.world (strip_moves h.strip (heard_calls w reads h (heard_parts w reads h o))))) h
