-- Calls that take memory.
use Rattle.std.specs.Prelude.{ℕ, List, Ok, Err, codes, Result}
use Rattle.refusal.specs.Refusals.{word}
use Rattle.refusal.specs.declared.Refusal.{Refusal}
use Rattle.refusal.specs.declared.Failure.{Failure}
use Rattle.refusal.specs.declared.Failure.TheVariants.{Refused, OutOfMemory}

-- what is written of a failure, as ASCII
abbrev pub failure_text : Failure → List ℕ
failure_text (Refused e) = word e
failure_text OutOfMemory = codes "out of memory"

-- P of what a call gives or refuses, where memory suffices for it
abbrev pub IfEnough : {X : Type 0} → Result X Failure → (Result X Refusal → Type 0) → Type 0
IfEnough (Ok x) P = P (Ok x)
IfEnough (Err (Refused e)) P = P (Err e)
IfEnough (Err OutOfMemory) P = Unit {0}
