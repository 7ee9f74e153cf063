-- Making a setup, its calls, and opening it.
use Rattle.std.specs.Prelude.{◌≡◌, ℕ, ◌≤◌, true, Some, None, Ok, Err, Option, Result, nat_le}
use Rattle.refusal.specs.declared.Refusal.{Refusal}
use Rattle.refusal.specs.declared.Refusal.TheVariants.{NoNode}
use Rattle.refusal.specs.Refusals.{refuse}
use Rattle.closing.specs.declared.types.Phase.TheVariants.{Poll}
use Rattle.board.specs.declared.states.Node.{Node}
use Rattle.board.specs.declared.states.Table.{Table}
use Rattle.board.specs.Setups.{new_table}
use Rattle.agreement.specs.declared.states.Setup.{Setup}
use Rattle.agreement.specs.declared.states.Instance.{Instance}

-- a new setup: every node honest
abbrev pub made : (n m : ℕ) → (1 ≤ n) × (n ≤ 16) × (1 ≤ m) × (m ≤ 16) → Setup
made n m fits = record { table = new_table n m fits }

-- the node, marked faulty
abbrev pub marked : Node → Node
marked x = record { faulty = true; bits = x.bits; decided = x.decided; finals = x.finals }

abbrev pub mark_faulty_refusal : Table → ℕ → Option Refusal
mark_faulty_refusal t node = refuse (nat_le t.n node) NoNode None

-- what making a setup answers: the refusal, or else the new setup, whose sizes are right
abbrev pub Makes : ℕ → ℕ → Option Refusal → Result Setup Refusal → Type 0
Makes n m None r = (sizes : (1 ≤ n) × (n ≤ 16) × (1 ≤ m) × (m ≤ 16)) × (r ≡ Ok (made n m sizes))
Makes n m (Some e) r = r ≡ Err e

-- opening: step 1
abbrev pub opened : Setup → Instance
opened s = record { table = s.table; phase = Poll; round = 1 }
