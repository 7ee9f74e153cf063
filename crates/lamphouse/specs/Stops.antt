-- Why a line has no answer.
use Rattle.std.specs.Prelude.{◌≡◌, Bool, true, false}
use Rattle.refusal.specs.declared.Failure.{Failure}
use Rattle.refusal.specs.declared.Failure.TheVariants as failure
use Rattle.lamphouse.specs.declared.stop.Stop.{Stop}
use Rattle.lamphouse.specs.declared.stop.Stop.TheVariants.{Refused, Ends}

-- whether the program ends
abbrev pub ends : Stop → Bool
ends (Refused e) = false
ends (Ends e) = true

-- a failure stops a line so: a refusal refuses it, and where memory was wanting the program ends
abbrev pub Stops : Failure → Stop → Type 0
Stops (failure.Refused e) s = s ≡ Refused e
Stops failure.OutOfMemory s = ends s ≡ true
