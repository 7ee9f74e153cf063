-- The faults of messages, and chains of checks.
use Rattle.std.specs.Prelude.{ℕ, Bool, true, false, ◌||◌, Err, Result, ◌==◌, nat_lt}
use Rattle.refusal.specs.declared.Refusal.{Refusal}
use Rattle.refusal.specs.declared.Fault.{Fault}
use Rattle.refusal.specs.declared.Layer.TheVariants.{Message}

-- a fault that the layer of messages finds at a place
abbrev pub in_message : Refusal → ℕ → Fault
in_message e place = record { refusal = e; layer = Message; place = place }

-- one check of a chain: the refusal at its place where the test hits, else what the later checks say
abbrev pub check : {X : Type 0} → Bool → Refusal → ℕ → Result X Fault → Result X Fault
check true e place later = Err (in_message e place)
check false e place later = later

-- whether a number of nodes or of items is out of range
abbrev pub bad_size : ℕ → Bool
bad_size n = n == 0 || nat_lt 16 n
