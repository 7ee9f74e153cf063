-- Items in octets, and messages that are written from them.
use Rattle.std.proofs.Common.{◌≡◌, ℕ, ◌-◌, ◌≤◌, min, Bool, true, false, not, eqb, List, ◌++◌, length, take, drop, Some, None, Ok, Err, Option, Result, sym, refl, ap, ◌∙◌, arith}
use Rattle.std.specs.Result.{result_map_both}
use Rattle.std.proofs.lemmas.List.{take_all}
use Rattle.std.proofs.lemmas.Bool.{eq-eqb}
use Rattle.refusal.specs.declared.Refusal.TheVariants.{Torn}
use Rattle.refusal.specs.declared.Fault.{Fault}
use Rattle.wire.specs.declared.message.Letter.{Letter}
use Rattle.wire.specs.Faults.{in_message, check, bad_size}
use Rattle.wire.specs.Letters.{letter_of}
use Rattle.wire.specs.Messages.{Contents, message_octets}
use Rattle.wire.specs.Writes.{contents_answer, written}
use Rattle.wire.proofs.BackLaws.{back_again}
use Rattle.controller.specs.declared.types.MessageHead.{MessageHead}
use Rattle.controller.specs.Answers.{after}
use Rattle.controller.specs.Places.{laid, put_front}
use Rattle.controller.specs.Writes.{or_fault, items_checks, contents_written, items_written, kind_written}
use Rattle.controller.proofs.PlaceLaws.{laid_front}

-- items that pass their checks
pub items_passed : {X : Type 0} (given wanted : ℕ) (fault : Option Fault) (later : Result X Fault) → given ≡ wanted → fault ≡ None
    → later ≡ items_checks given wanted fault later
items_passed given wanted fault later e none = let b = eq-eqb given wanted e in simp (b, none)

-- up to 16 elements at the front of 16 places
pub front_all : {X : Type 0} (xs place : List X) (k : ℕ) → length place ≡ 16 → length xs ≡ k → k ≤ 16 → take (k - 0) (laid xs place) ≡ xs
front_all xs place k l e h =
    let m : k ≡ min (length xs) 16 = omega arith in
    laid_front xs place 16 k l m ∙ take_all 16 xs (omega arith)

-- sizes that are in range, and a letter
pub kind_passed : {X : Type 0} (w : ℕ) (octets : X → List ℕ) (reads : List ℕ → Option X) (n : ℕ) (a : MessageHead) (o place : List ℕ) (l : Letter)
    → letter_of a.letter ≡ Some l → bad_size n ≡ false → bad_size a.items ≡ false
    → kind_written w octets reads n a o place ≡ items_written w octets reads n a o place l
kind_passed w octets reads n a o place l k b₁ b₂ = simp (k, b₁, b₂)

module _ {X : Type 0} (w : ℕ) (octets : X → List ℕ) (reads : List ℕ → Option X) (long : (r : X) → length (octets r) ≡ w)
    (back : (r : X) → reads (octets r) ≡ Some r) (n m : ℕ) (place : List ℕ) (c : Contents X) (r : Result ℕ Fault) (now : List ℕ) where
  -- what is told and left, by what the octets of the message come to
  abbrev Finished : Result (List ℕ) Fault → Type 0
  Finished q = (r ≡ result_map_both length (λ f. f) q) × (now ≡ after q put_front place)

  refused_so : (f : Fault) → r ≡ Err f → now ≡ written r (message_octets w octets c) place → Finished (Err f)
  refused_so f e h = (e, h ∙ ap (λ (x : Result ℕ Fault). written x (message_octets w octets c) place) e)

  written_so : (q : Result ℕ Fault) → contents_answer w n m c (length place) ≡ q → r ≡ q → now ≡ written r (message_octets w octets c) place
      → Finished (result_map_both (λ _. message_octets w octets c) (λ f. f) q)
  written_so (Err f) e h k = refused_so f h k
  written_so (Ok s) e h k =
      let o = message_octets w octets c in
      let l : length o ≡ s = (back_again w octets reads long back n m (length place) s c e).0 in (
        h ∙ ap Ok (sym l),
        k ∙ ap (λ (x : Result ℕ Fault). written x o place) h ∙ ap (λ x. o ++ drop x place) (sym l),
      )

  checked_so : (b : Bool) (given : ℕ) (fault : Option Fault) → r ≡ check b Torn given (or_fault fault (contents_answer w n m c (length place)))
      → now ≡ written r (message_octets w octets c) place → Finished (check b Torn given (or_fault fault (contents_written w octets n m place c)))
  checked_so true given fault e h = refused_so (in_message Torn given) e h
  checked_so false given (Some f) e h = refused_so f e h
  checked_so false given None e h = written_so (contents_answer w n m c (length place)) refl e h

  -- the writer's answer and what it left, for items in octets
  pub finished : (given wanted : ℕ) (fault : Option Fault) → r ≡ items_checks given wanted fault (contents_answer w n m c (length place))
      → now ≡ written r (message_octets w octets c) place → Finished (items_checks given wanted fault (contents_written w octets n m place c))
  finished given wanted fault e h = checked_so (not (eqb given wanted)) given fault e h
