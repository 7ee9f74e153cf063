-- The law of the answers of a script that was accepted, as they stand in a list that was lent.
use Rattle.std.proofs.Common.{◌≡◌, ℕ, List, ◌++◌, length, take, Some, None, Ok, Option, Result, sym, subst, arith}
use Rattle.std.proofs.lemmas.List.{take_at}
use Rattle.refusal.specs.declared.Refusal.{Refusal}
use Rattle.refusal.specs.Refusals.{answered}
use Rattle.law.specs.declared.calls.SetupCall.{SetupCall}
use Rattle.law.specs.declared.calls.Call.{Call}
use Rattle.law.specs.declared.calls.Told.{Told}
use Rattle.law.specs.Runs.{Tosses}
use Rattle.play.specs.Moves.{Lent}
use Rattle.play.specs.Played.{Plays}
use Rattle.rehearsal.specs.Scripts.{AnswersLawful}

module _ {R : Type 0} (meaning : R → ℕ) (f : Tosses) (n m : ℕ) where
  -- an accepted script keeps to the law
  accepted_lawful : (ks : List (SetupCall R)) (cs : List (Call R)) (o : Option Refusal) (b b' : Lent R) (old answers : List (Result (Told R) Refusal)) (k count : ℕ)
      → Ok k ≡ answered o count → Plays meaning f n m ks cs o b b' old answers → AnswersLawful meaning f n m ks cs answers
  accepted_lawful ks cs None b b' old answers k count e p = (p.0, b, p.1.law)
  accepted_lawful ks cs (Some d) b b' old answers k count e p = absurd (let z : ◌≡◌ {A = ℕ} 0 1 = cc in omega arith)

  -- the same of the lists that were lent, and of the list that has the answers in its places
  pub lent_lawful : (ks js : List (SetupCall R)) (cs ds : List (Call R)) (o : Option Refusal) (b b' : Lent R) (old answers rest : List (Result (Told R) Refusal)) (k count places : ℕ)
      → ks ≡ js → cs ≡ ds → length answers ≡ places → Ok k ≡ answered o count → Plays meaning f n m ks cs o b b' old answers
      → AnswersLawful meaning f n m js ds (take places (answers ++ rest))
  lent_lawful ks js cs ds o b b' old answers rest k count places e d l h p =
      subst (λ xs. AnswersLawful meaning f n m xs ds (take places (answers ++ rest))) e
      (subst (λ xs. AnswersLawful meaning f n m ks xs (take places (answers ++ rest))) d
      (subst (λ xs. AnswersLawful meaning f n m ks cs xs) (sym (take_at answers rest places l))
      (accepted_lawful ks cs o b b' old answers k count h p)))
