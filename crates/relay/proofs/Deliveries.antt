-- All calls of a message, one after the other.
use Rattle.std.proofs.Common.{◌≡◌, ℕ, ◌+◌, ◌<◌, ◌≤◌, Bool, true, false, List, [], ◌++◌, length, get_or, take, drop, set, Some, None, Option, Result, sym, refl, ap, ◌∙◌, subst, arith}
use Rattle.std.proofs.lemmas.List.{get_or_default, length-take, drop_all, append-nil}
use Rattle.std.proofs.lemmas.Bool.{lt-ltb, le-ltb, eq-eqb, ne_eqb}
use Rattle.refusal.specs.declared.Refusal.{Refusal}
use Rattle.refusal.specs.declared.Refusal.TheVariants.{Short, StrangeReading, OutOfTurn}
use Rattle.agreement.specs.declared.states.Instance.{Instance}
use Rattle.agreement.specs.Phases.{step_number}
use Rattle.law.specs.declared.calls.Call.{Call}
use Rattle.law.specs.declared.calls.Told.{Told}
use Rattle.law.specs.Runs.{Tosses, history}
use Rattle.play.specs.Moves.{moves_of, world_of, call_says}
use Rattle.play.proofs.Pushes.{SoFar, call_none, call_step, call_end}
use Rattle.wire.specs.Messages.{Parts}
use Rattle.relay.specs.Deliveries.{calls_of, has_strange, deliver_refusal, lent, Sent, AllSent, Delivers}

module _ {R : Type 0} (meaning : R → ℕ) (calls : List (Call R)) (old : List (Result (Told R) Refusal)) (s₀ : Instance) (sent₀ : List (Option R)) (marks₀ : List ℕ) where
  -- the calls before place k were made, and their answers are written
  abbrev pub SentSoFar : Instance → List (Option R) → List ℕ → ℕ → List (Result (Told R) Refusal) → Type 0
  SentSoFar s sent marks k answers = (f : Tosses) (values scratch : List (Option R)) →
      SoFar meaning f s₀ s (lent values scratch sent₀ marks₀) (lent values scratch sent marks) calls k old answers

  pub sent_none : SentSoFar s₀ sent₀ marks₀ 0 old
  sent_none = λ f values scratch. call_none meaning f s₀ (lent values scratch sent₀ marks₀) calls old

  -- one more call
  pub sent_more : (s s' : Instance) (sent sent' : List (Option R)) (marks marks' : List ℕ) (k : ℕ) (a a' : List (Result (Told R) Refusal)) (x : Result (Told R) Refusal) (d : Call R) →
      k < length calls → length calls ≤ length old → length sent ≡ length sent₀ → length marks ≡ length marks₀ →
      Sent meaning s s' sent sent' marks marks' (get_or calls k d) x → a' ≡ set a k x → SentSoFar s sent marks k a → SentSoFar s' sent' marks' (k + 1) a'
  sent_more s s' sent sent' marks marks' k a a' x d l long ks km made w inv = λ f values scratch.
      call_step meaning f s₀ s s' (lent values scratch sent₀ marks₀) (lent values scratch sent marks) (lent values scratch sent' marks') calls k old a a' x (get_or calls k d)
      l long (record { values = refl; scratch = refl; sent = ks; marks = km }) (get_or_default calls k d (get_or calls k d) l)
      (made f values scratch) refl w (inv f values scratch)

  -- all calls
  pub sent_all : (s : Instance) (sent : List (Option R)) (marks : List ℕ) (k : ℕ) (a : List (Result (Told R) Refusal)) → k ≡ length calls → SentSoFar s sent marks k a →
      AllSent meaning s₀ s sent₀ sent marks₀ marks calls old a
  sent_all s sent marks k a e inv = record {
    world = λ f values scratch. (call_end meaning f s₀ s (lent values scratch sent₀ marks₀) (lent values scratch sent marks) calls k old a e (inv f values scratch)).world;
    answers_are = λ f values scratch. (call_end meaning f s₀ s (lent values scratch sent₀ marks₀) (lent values scratch sent marks) calls k old a e (inv f values scratch)).answers_are;
  }

  -- nothing is altered where a check hits
  pub delivers_nothing : (o : Option Refusal) (e : Refusal) → o ≡ Some e → Delivers meaning s₀ s₀ sent₀ sent₀ marks₀ marks₀ o calls old old
  delivers_nothing o e h = subst (λ x. Delivers meaning s₀ s₀ sent₀ sent₀ marks₀ marks₀ x calls old old) (sym h) (refl, refl, refl, refl)

  -- all calls are made where none hits
  pub delivers_all : (s : Instance) (sent : List (Option R)) (marks : List ℕ) (a : List (Result (Told R) Refusal)) (o : Option Refusal) → o ≡ None →
      AllSent meaning s₀ s sent₀ sent marks₀ marks calls old a → Delivers meaning s₀ s sent₀ sent marks₀ marks o calls old a
  delivers_all s sent marks a o h all = subst (λ x. Delivers meaning s₀ s sent₀ sent marks₀ marks x calls old a) (sym h) all

-- what is written apart from the front of a list is written there
pub front_sent : {R : Type 0} (meaning : R → ℕ) (calls : List (Call R)) (s s' : Instance) (sent sent' : List (Option R)) (marks marks' : List ℕ) (old a : List (Result (Told R) Refusal)) (n : ℕ) → n ≡ length calls →
    AllSent meaning s s' sent sent' marks marks' calls (take n old) a → AllSent meaning s s' sent sent' marks marks' calls old (a ++ drop n old)
front_sent meaning calls s s' sent sent' marks marks' old a n e all = record {
  world = all.world;
  answers_are = λ f values scratch.
      let says = call_says (history meaning (world_of s (lent values scratch sent marks)) (moves_of s.table.n s.table.m (lent values scratch sent marks) f calls)) in
      let none : drop (length calls) (take n old) ≡ [] = drop_all (length calls) (take n old) (omega (arith, e, length-take n old)) in
      ap (λ xs. xs ++ drop n old) (all.answers_are f values scratch ∙ ap (λ xs. says ++ xs) none ∙ append-nil says) ∙ ap (λ k. says ++ drop k old) e;
}

-- the checks, one after the other
module _ {R : Type 0} (w : ℕ) (reads : List ℕ → Option R) (j : ℕ) (p : Parts) (s : Instance) (places : ℕ) where
  abbrev count : ℕ
  count = length (calls_of w reads j p)

  abbrev strange : Bool
  strange = has_strange w reads p

  pub refused_short : places < count → deliver_refusal w reads j p s places ≡ Some Short
  refused_short h = rw (lt-ltb places count h)

  pub refused_strange : count ≤ places → strange ≡ true → deliver_refusal w reads j p s places ≡ Some StrangeReading
  refused_strange h e = rw (le-ltb places count h, e)

  pub refused_turn : count ≤ places → strange ≡ false → (p.front.step ≡ step_number s → ⊥) → deliver_refusal w reads j p s places ≡ Some OutOfTurn
  refused_turn h e n = rw (le-ltb places count h, e, ne_eqb p.front.step (step_number s) n)

  pub refused_not : count ≤ places → strange ≡ false → p.front.step ≡ step_number s → deliver_refusal w reads j p s places ≡ None
  refused_not h e n = rw (le-ltb places count h, e, eq-eqb p.front.step (step_number s) n)
