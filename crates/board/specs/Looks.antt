-- Asking for what a node has decided of an item.
use Rattle.std.specs.Prelude.{ℕ, Bool, cond, not, List, None, Option, nat_le}
use Rattle.refusal.specs.declared.Refusal.{Refusal}
use Rattle.refusal.specs.declared.Refusal.TheVariants.{Short, NoNode, NoItem, FaultyNode}
use Rattle.refusal.specs.Refusals.{refuse}
use Rattle.board.specs.declared.states.Table.{Table}
use Rattle.board.specs.declared.states.Decision.{Decision}
use Rattle.board.specs.declared.states.Decision.TheVariants.{Undecided, Decided}
use Rattle.board.specs.Tables.{faulty_at, bit_at, decided_at, value_at}

-- the checks of an honest node and an item; `fits` is whether the values board is long enough
abbrev pub pair_refusal : Table → Bool → ℕ → ℕ → Option Refusal
pair_refusal t fits node item =
    refuse (not fits) Short
    (refuse (nat_le t.n node) NoNode
    (refuse (nat_le t.m item) NoItem
    (refuse (faulty_at t node) FaultyNode None)))

-- the checks of asking for a decision
abbrev pub decision_refusal : Table → Bool → ℕ → ℕ → Option Refusal
decision_refusal t fits node item = pair_refusal t fits node item

-- a node's decision of an item: none for bit 1, the own value for bit 0
abbrev pub decision_of : {R : Type 0} → Table → List (Option R) → ℕ → ℕ → Decision R
decision_of t values node item =
    cond (decided_at t node item) (Decided (cond (bit_at t node item) None (value_at t values node item))) Undecided
