-- What is decided of one item after the other.
use Rattle.std.proofs.Common.{◌≡◌, ℕ, zero, suc, ◌+◌, ◌<◌, List, [], ◌∷◌, ◌++◌, Some, None, Option, sym, refl, ap, ◌∙◌, inl, inr, add-one, arith}
use Rattle.std.proofs.lemmas.Bool.{cases_eq}
use Rattle.participant.specs.Results.{with_last, each_of}

module _ {X : Type 0} (f : ℕ → Option X) where
  -- one more
  pub each_more : (k : ℕ) (xs ys : List X) (x : X) → Some xs ≡ each_of f k → Some x ≡ f k → ys ≡ xs ++ x ∷ [] → Some ys ≡ each_of f (k + 1)
  each_more k xs ys x a b e = ap Some e ∙ ap (λ o. with_last o (Some x)) a ∙ ap (with_last (each_of f k)) b ∙ ap (λ i. each_of f i) (sym (add-one k))

  -- one that is missing stays missing
  last_none : (o : Option (List X)) → with_last o None ≡ None
  last_none None = refl
  last_none (Some xs) = refl

  pub each_missing : (k m : ℕ) → k < m → None ≡ f k → None ≡ each_of f m
  each_missing k zero l e = absurd (omega arith)
  each_missing k (suc m) l e = elim (cases_eq k m) [
    | inl same ↦ sym (ap (with_last (each_of f m)) (sym (e ∙ ap f same)) ∙ last_none (each_of f m))
    | inr other ↦ ap (λ o. with_last o (f m)) (each_missing k m (omega arith) e)
  ]
