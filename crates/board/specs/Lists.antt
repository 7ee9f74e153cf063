-- The list of what is undecided.
use Rattle.std.specs.Prelude.{◌≡◌, ℕ, zero, suc, ◌+◌, ◌*◌, ◌/◌, ◌%◌, Bool, cond, ◌&&◌, List, [], ◌∷◌, ◌++◌, take, drop, Some, None, count_by, Option, nat_eq, nat_lt}
use Rattle.refusal.specs.declared.Refusal.{Refusal}
use Rattle.board.specs.declared.states.Table.{Table}
use Rattle.board.specs.Tables.{undecided_at, undecided_count}

-- the number that stands for item c of node i
abbrev pub entry_of : ℕ → ℕ → ℕ
entry_of i c = i * 16 + c

-- whether a number stands for an item that is undecided at an honest node
abbrev pub is_entry : Table → ℕ → Bool
is_entry t x = nat_lt (x / 16) t.n && (nat_lt (x % 16) t.m && undecided_at t (x / 16) (x % 16))

-- a list that was written: its front has each undecided item once and nothing else, and the rest is as it was
pub record Listed (t : Table) (before after : List ℕ) : Type 0 where
  pub each_once : (x : ℕ) → count_by (λ y. nat_eq y x) (take (undecided_count t) after) ≡ cond (is_entry t x) 1 0
  pub rest : drop (undecided_count t) after ≡ drop (undecided_count t) before

-- what a call leaves of the list: a refusal alters nothing
abbrev pub Lists : Table → Option Refusal → List ℕ → List ℕ → Type 0
Lists t None before after = Listed t before after
Lists t (Some e) before after = after ≡ before

-- the entries of the first k pairs of a node and an item, in their order
abbrev pub entries : Table → ℕ → List ℕ
entries t zero = []
entries t (suc k) = entries t k ++ cond (undecided_at t (k / t.m) (k % t.m)) (entry_of (k / t.m) (k % t.m) ∷ []) []
