-- What a send leaves of the instance and its boards, by what refuses it.
use Rattle.std.proofs.Common.{◌≡◌, ℕ, Bool, true, false, eqb, List, Some, None, Option, Result, refl, ap, ◌∙◌, subst}
use mir.Val.{bool_byte}
use Rattle.std.specs.Result.{result_map_both}
use Rattle.refusal.specs.declared.Refusal.{Refusal}
use Rattle.refusal.specs.Refusals.{answered}
use Rattle.board.specs.Setups.{if_accepted}
use Rattle.agreement.specs.declared.states.Instance.{Instance}
use Rattle.closing.specs.Counting.{mark_of}
use Rattle.agreement.specs.Calls.{send_final_refusal, sent_after, final_after}
use Rattle.agreement.specs.Effects.{value_refusal, bit_refusal}
use Rattle.law.specs.declared.calls.Call.{Call}
use Rattle.law.specs.declared.calls.Call.TheVariants.{SendValue, SendBit, SendFinal}
use Rattle.law.specs.declared.calls.Told.{Told}
use Rattle.law.specs.declared.calls.Told.TheVariants.{Done}
use Rattle.law.specs.Runs.{World}
use Rattle.wire.specs.Bits.{bit_number}
use Rattle.relay.specs.Deliveries.{Sent}

-- what stays where a call is accepted stays in any case
pub kept : {X : Type 0} (o : Option Refusal) (x y : X) → y ≡ x → y ≡ if_accepted o x x
kept None x y e = e
kept (Some u) x y e = e

-- an instance with its boards, part by part
world_parts : {R : Type 0} (s s' : Instance) (values sent sent' : List (Option R)) (marks marks' : List ℕ) → s' ≡ s → sent' ≡ sent → marks' ≡ marks →
    ◌≡◌ {A = World R} (record { state = s'; values = values; sent = sent'; marks = marks' }) (record { state = s; values = values; sent = sent; marks = marks })
world_parts s s' values sent sent' marks marks' a b c =
    ap (λ x. record { state = x; values = values; sent = sent'; marks = marks' }) a
    ∙ ap (λ x. record { state = s; values = values; sent = x; marks = marks' }) b
    ∙ ap (λ x. record { state = s; values = values; sent = sent; marks = x }) c

-- what is left
pub send_world : {R : Type 0} (o : Option Refusal) (s s' x : Instance) (values sent sent' y : List (Option R)) (marks marks' z : List ℕ) →
    s' ≡ if_accepted o x s → sent' ≡ if_accepted o y sent → marks' ≡ if_accepted o z marks →
    ◌≡◌ {A = World R} (record { state = s'; values = values; sent = sent'; marks = marks' })
    (if_accepted o (record { state = x; values = values; sent = y; marks = z }) (record { state = s; values = values; sent = sent; marks = marks }))
send_world None s s' x values sent sent' y marks marks' z a b c = world_parts x s' values y sent' z marks' a b c
send_world (Some u) s s' x values sent sent' y marks marks' z a b c = world_parts s s' values sent sent' marks marks' a b c

-- what a send answers
send_answer : {R : Type 0} (o : Option Refusal) (r : Result (Unit {0}) Refusal) (a : Result (Told R) Refusal) → r ≡ answered o tt → a ≡ result_map_both (λ _. Done) (λ e. e) r → a ≡ answered o Done
send_answer None r a e t = t ∙ ap (result_map_both (λ _. Done) (λ e. e)) e
send_answer (Some u) r a e t = t ∙ ap (result_map_both (λ _. Done) (λ e. e)) e

module _ {R : Type 0} (meaning : R → ℕ) (s s' : Instance) (sent sent' : List (Option R)) (marks marks' : List ℕ) (r : Result (Unit {0}) Refusal) (a : Result (Told R) Refusal) where
  -- a cell was sent
  pub value_sent : (i j c : ℕ) (x : Option R) → a ≡ result_map_both (λ _. Done) (λ e. e) r → r ≡ answered (value_refusal s sent marks i j c) tt → s' ≡ s →
      sent' ≡ if_accepted (value_refusal s sent marks i j c) (sent_after s.table sent i j c x) sent →
      marks' ≡ if_accepted (value_refusal s sent marks i j c) (sent_after s.table marks i j c 1) marks → Sent meaning s s' sent sent' marks marks' (SendValue i j c x) a
  value_sent i j c x t e es ev em = λ f values scratch.
      let o = value_refusal s sent marks i j c in
      record {
        answer = send_answer o r a e t;
        world = send_world o s s' s values sent sent' (sent_after s.table sent i j c x) marks marks' (sent_after s.table marks i j c 1) (kept o s s' es) ev em;
      }

  -- a bit was sent
  pub bit_sent : (i j c b : ℕ) → a ≡ result_map_both (λ _. Done) (λ e. e) r → r ≡ answered (bit_refusal s marks i j c b) tt → s' ≡ s → sent' ≡ sent →
      marks' ≡ if_accepted (bit_refusal s marks i j c b) (sent_after s.table marks i j c (mark_of (eqb b 1))) marks → Sent meaning s s' sent sent' marks marks' (SendBit i j c b) a
  bit_sent i j c b t e es ev em = λ f values scratch.
      let o = bit_refusal s marks i j c b in
      record {
        answer = send_answer o r a e t;
        world = send_world o s s' s values sent sent' sent marks marks' (sent_after s.table marks i j c (mark_of (eqb b 1))) (kept o s s' es) (kept o sent sent' ev) em;
      }

  -- the bits were made to stay
  pub final_sent : (i j : ℕ) → a ≡ result_map_both (λ _. Done) (λ e. e) r → r ≡ answered (send_final_refusal s i j) tt →
      s' ≡ if_accepted (send_final_refusal s i j) (final_after s i j) s → sent' ≡ sent → marks' ≡ marks → Sent meaning s s' sent sent' marks marks' (SendFinal i j) a
  final_sent i j t e es ev em = λ f values scratch.
      let o = send_final_refusal s i j in
      record {
        answer = send_answer o r a e t;
        world = send_world o s s' (final_after s i j) values sent sent' sent marks marks' marks es (kept o sent sent' ev) (kept o marks marks' em);
      }

-- a send under an equal name
pub sent_as : {R : Type 0} (meaning : R → ℕ) (s s' : Instance) (sent sent' : List (Option R)) (marks marks' : List ℕ) (k k' : Call R) (a : Result (Told R) Refusal) → k ≡ k' →
    Sent meaning s s' sent sent' marks marks' k a → Sent meaning s s' sent sent' marks marks' k' a
sent_as meaning s s' sent sent' marks marks' k k' a e h = subst (λ x. Sent meaning s s' sent sent' marks marks' x a) e h

-- a bit as an octet
pub bit_octet : (b : Bool) → bool_byte b ≡ bit_number b
bit_octet true = refl
bit_octet false = refl
