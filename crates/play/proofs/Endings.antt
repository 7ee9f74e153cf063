-- How playing a script ends: refused, or with everything done.
use Rattle.std.proofs.Common.{◌≡◌, ℕ, ◌+◌, ◌*◌, ◌≤◌, Bool, true, false, ◌||◌, ltb, List, length, Some, None, Ok, Option, Result, sym, refl, ap, ◌∙◌, subst, ap₂}
use Rattle.std.proofs.lemmas.Bool.{ltb-false}
use Rattle.refusal.specs.declared.Refusal.{Refusal}
use Rattle.refusal.specs.declared.Refusal.TheVariants.{BadSize, Short}
use Rattle.refusal.specs.Refusals.{refuse, answered}
use Rattle.agreement.specs.declared.states.Setup.{Setup}
use Rattle.board.specs.Setups.{make_refusal, blank_values, blank_marks}
use Rattle.agreement.specs.Setups.{made}
use Rattle.board.specs.Setups.{if_accepted}
use Rattle.agreement.specs.Setups.{Makes}
use Rattle.law.specs.declared.calls.SetupCall.{SetupCall}
use Rattle.law.specs.declared.calls.Call.{Call}
use Rattle.law.specs.declared.calls.Told.{Told}
use Rattle.law.specs.Runs.{Tosses}
use Rattle.law.specs.Law.{Sizes}
use Rattle.play.specs.Moves.{Lent}
use Rattle.play.specs.Played.{bad_sizes, play_refusal, blanked, Ran, Plays}
use Rattle.play.proofs.Laws.{lawful}

-- what making a setup gave
makes_ok : (n m : ℕ) (o : Option Refusal) (s : Setup) → Makes n m o (Ok s) → (o ≡ None) × ((sizes : (1 ≤ n) × (n ≤ 16) × (1 ≤ m) × (m ≤ 16)) × (s ≡ made n m sizes))
makes_ok n m None s h = (refl, (h.0, (let k = h.1 in cc)))
makes_ok n m (Some u) s h = absurd cc

accepted_long : (x y z : Bool) → refuse x BadSize (refuse (y || z) Short None) ≡ None → (y ≡ false) × (z ≡ false)
accepted_long true y z h = absurd cc
accepted_long false true z h = absurd cc
accepted_long false false true h = absurd cc
accepted_long false false false h = (refl, refl)

-- the answers have places
room : (places number k : ℕ) → Ok k ≡ answered (refuse (ltb places number) Short None) number → ltb places number ≡ false
room places number k e = go (ltb places number) e
  where
    go : (b : Bool) → Ok k ≡ answered (refuse b Short None) number → b ≡ false
    go true h = absurd cc
    go false h = refl

module _ {R : Type 0} (meaning : R → ℕ) (f : Tosses) (n m : ℕ) (ks : List (SetupCall R)) (cs : List (Call R)) where
  -- how many answers there are
  abbrev number : ℕ
  number = length ks + length cs

  -- the checks of this script on these boards
  abbrev checks : Lent R → List (Result (Told R) Refusal) → Option Refusal
  checks b old = play_refusal n m (length b.values) (length b.marks) number (length old)

  pub script_played : (b b' : Lent R) (values : List (Option R)) (marks : List ℕ) (old answers : List (Result (Told R) Refusal)) (s : Setup) (k : ℕ) → bad_sizes n m ≡ false →
      Ok k ≡ answered (refuse (ltb (length old) number) Short None) number →
      Makes n m (make_refusal n m (length b.values) (length b.marks)) (Ok s) →
      values ≡ if_accepted (make_refusal n m (length b.values) (length b.marks)) (blank_values n m b.values) b.values →
      marks ≡ if_accepted (make_refusal n m (length b.values) (length b.marks)) (blank_marks n m b.marks) b.marks →
      Ran meaning f s.table (record { values = values; scratch = b.scratch; sent = b.sent; marks = marks }) ks cs b' old answers →
      Plays meaning f n m ks cs (checks b old) b b' old answers
  script_played b b' values marks old answers s count bad fit h ev em r =
      let k = makes_ok n m (make_refusal n m (length b.values) (length b.marks)) s h in
      let E : checks b old ≡ None = ap₂ (λ x y. refuse x BadSize (refuse y Short (make_refusal n m (length b.values) (length b.marks)))) bad (room (length old) number count fit) ∙ k.0 in
      let z = k.1.0 in
      let sizes : Sizes n m = record { some_node = z.0; few_nodes = z.1; some_item = z.2; few_items = z.3 } in
      let long = accepted_long (bad_sizes n m) (ltb (length b.values) (n * m)) (ltb (length b.marks) (n * n * m)) k.0 in
      let vs : values ≡ blank_values n m b.values = ev ∙ ap (λ x. if_accepted x (blank_values n m b.values) b.values) k.0 in
      let ms : marks ≡ blank_marks n m b.marks = em ∙ ap (λ x. if_accepted x (blank_marks n m b.marks) b.marks) k.0 in
      let same : ◌≡◌ {A = Lent R} (record { values = values; scratch = b.scratch; sent = b.sent; marks = marks }) (blanked n m b) = ap₂ (λ xs ys. record { values = xs; scratch = b.scratch; sent = b.sent; marks = ys }) vs ms in
      let ran : Ran meaning f (made n m z).table (blanked n m b) ks cs b' old answers =
      subst (λ (x : Lent R). Ran meaning f (made n m z).table x ks cs b' old answers) same
      (subst (λ (x : Setup). Ran meaning f x.table (record { values = values; scratch = b.scratch; sent = b.sent; marks = marks }) ks cs b' old answers) k.1.1 r) in
      subst (λ x. Plays meaning f n m ks cs x b b' old answers) (sym E)
      (sizes, record { ran = ran; law = lawful meaning n m sizes f b b' ks cs old answers (ltb-false _ _ long.0) (ltb-false _ _ long.1) ran })
