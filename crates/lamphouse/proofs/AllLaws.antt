-- One field more of those that are all to be read.
use Rattle.std.proofs.Common.{◌≡◌, ℕ, List, [], ◌∷◌, ◌++◌, drop, Some, None, Option, sym, refl, ap, ◌∙◌, append_assoc, arith}
use Rattle.std.proofs.lemmas.List.{append-nil}
use Rattle.std.specs.List.{slice_get}
use Rattle.std.specs.Option.{option_map}
use Rattle.lines.specs.Digits.{and_then}
use Rattle.lamphouse.specs.Grammar.{all_of}

-- what was read before, with one more
one_more : {X : Type 0} (xs : List X) (x : X) (o : Option (List X))
    → option_map (λ ys. (xs ++ x ∷ []) ++ ys) o ≡ option_map (λ ys. xs ++ ys) (option_map (λ ys. x ∷ ys) o)
one_more xs x None = refl
one_more xs x (Some ys) = ap Some (append_assoc xs (x ∷ []) ys)

-- the field in front, and the rest
first_field : (fs : List (List ℕ)) (f : List ℕ) → Some f ≡ slice_get fs 0 → fs ≡ f ∷ drop 1 fs
first_field [] f e = absurd (let z : ◌≡◌ {A = ℕ} 0 1 = cc in omega arith)
first_field (h ∷ hs) f e = let q : h ≡ f = cc in ap (λ (k : List ℕ). k ∷ hs) q

-- a field is read, and the rest is to come
pub all_more : {X : Type 0} (p : List ℕ → Option X) (xs more : List X) (fs rest : List (List ℕ)) (f : List ℕ) (x : X)
    → Some f ≡ slice_get fs 0 → rest ≡ drop 1 fs → Some x ≡ p f → more ≡ xs ++ x ∷ []
    → option_map (λ ys. more ++ ys) (all_of p rest) ≡ option_map (λ ys. xs ++ ys) (all_of p fs)
all_more p xs more fs rest f x a b d e =
    ap (λ (zs : List _). option_map (λ ys. zs ++ ys) (all_of p rest)) e
    ∙ one_more xs x (all_of p rest)
    ∙ ap (option_map (λ ys. xs ++ ys)) (ap (λ (gs : List (List ℕ)). option_map (λ ys. x ∷ ys) (all_of p gs)) b
    ∙ ap (λ (o : Option _). and_then o (λ z. option_map (λ ys. z ∷ ys) (all_of p (drop 1 fs)))) d
    ∙ sym (ap (all_of p) (first_field fs f a)))

-- a field that cannot be read
pub all_none : {X : Type 0} (p : List ℕ → Option X) (fs : List (List ℕ)) (f : List ℕ) (g : List X → List X) (whole : Option (List X))
    → Some f ≡ slice_get fs 0 → p f ≡ None → option_map g (all_of p fs) ≡ whole → whole ≡ None
all_none p fs f g whole a n e =
    let strange : all_of p (f ∷ drop 1 fs) ≡ None = ap (λ (o : Option _). and_then o (λ z. option_map (λ ys. z ∷ ys) (all_of p (drop 1 fs)))) n in
    sym e ∙ ap (option_map g) (ap (all_of p) (first_field fs f a) ∙ strange)

-- no field is to come
pub all_done : {X : Type 0} (p : List ℕ → Option X) (xs : List X) (fs : List (List ℕ)) (whole : Option (List X))
    → None ≡ slice_get fs 0 → option_map (λ ys. xs ++ ys) (all_of p fs) ≡ whole → whole ≡ Some xs
all_done p xs [] whole n e = sym e ∙ ap Some (append-nil xs)
all_done p xs (f ∷ fs) whole n e = absurd (let z : ◌≡◌ {A = ℕ} 0 1 = cc in omega arith)
