-- What is written to a text, one part after another.
use Rattle.std.proofs.Common.{◌≡◌, ℕ, cond, List, ◌++◌, is_ok, Ok, Err, Result, ap, ◌∙◌}
use Rattle.std.proofs.lemmas.List.{append_assoc}
use Rattle.spelling.specs.Texts.{Wrote}

-- a slice that is added
pub wrote_slice : {X E : Type 0} (r : Result X E) (old new slice octets : List ℕ) → new ≡ cond (is_ok r) (old ++ slice) old → slice ≡ octets → Wrote r old new octets
wrote_slice (Ok x) old new slice octets e s = e ∙ ap (λ os. old ++ os) s
wrote_slice (Err x) old new slice octets e s = tt

-- what is added behind a part
pub wrote_behind : {X E : Type 0} (r : Result X E) (old mid new part octets whole : List ℕ) → mid ≡ old ++ part → Wrote r mid new octets → part ++ octets ≡ whole → Wrote r old new whole
wrote_behind (Ok x) old mid new part octets whole e w s = w ∙ ap (λ os. os ++ octets) e ∙ append_assoc old part octets ∙ ap (λ os. old ++ os) s
wrote_behind (Err x) old mid new part octets whole e w s = tt
