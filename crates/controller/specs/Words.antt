-- The words of the refusals, by their numbers.
use Rattle.std.specs.Prelude.{ℕ, List, [], Some, None, Option}
use Rattle.refusal.specs.declared.Refusal.{Refusal}
use Rattle.refusal.specs.Refusals.{word, refusal_of}

-- the word of a refusal, and no octets for none
abbrev pub word_or_none : Option Refusal → List ℕ
word_or_none None = []
word_or_none (Some e) = word e

-- the word of the refusal with the number k
abbrev pub word_of : ℕ → List ℕ
word_of k = word_or_none (refusal_of k)
