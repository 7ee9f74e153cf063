-- What a call answers in numbers, and what it leaves in lent places.
use Rattle.std.specs.Prelude.{ℕ, Ok, Err, Result}
use Rattle.refusal.specs.declared.Refusal.{Refusal}
use Rattle.refusal.specs.declared.Fault.{Fault}
use Rattle.refusal.specs.Refusals.{number, layer_number}
use Rattle.controller.specs.declared.types.MessageFault.{MessageFault}

-- the number that a call answers: 0, or the refusal's
abbrev pub result_number : {X : Type 0} → Result X Refusal → ℕ
result_number (Ok x) = 0
result_number (Err e) = number e

-- the number that a call on a message answers: 0, or that of the fault's refusal
abbrev pub fault_number : {X : Type 0} → Result X Fault → ℕ
fault_number (Ok x) = 0
fault_number (Err f) = number f.refusal

-- a fault, as a caller is told it
abbrev pub told_fault : Fault → MessageFault
told_fault f = record { place = f.place; number = number f.refusal; layer = layer_number f.layer }

-- what a lent place holds after a call: what f makes of it by the result, or what it held where the call was refused
abbrev pub after : {X Y E : Type 0} → Result X E → (X → Y → Y) → Y → Y
after (Ok x) f y = f x y
after (Err e) f y = y

-- what a caller's place for a fault holds after a call: the fault, or what it held where there is none
abbrev pub fault_after : {X : Type 0} → Result X Fault → MessageFault → MessageFault
fault_after (Ok x) before = before
fault_after (Err f) before = told_fault f
