-- Making a table with its boards, and giving the nodes their first cells. A call that is refused alters nothing.
use Rattle.std.specs.Prelude.{◌≡◌, ℕ, ◌*◌, ◌≤◌, Bool, ◌||◌, List, replicate, Some, None, Ok, Err, Option, Result, ◌==◌, nat_lt}
use Rattle.refusal.specs.declared.Refusal.{Refusal}
use Rattle.refusal.specs.declared.Refusal.TheVariants.{BadSize, Short}
use Rattle.refusal.specs.Refusals.{refuse}
use Rattle.board.specs.declared.states.Table.{Table}
use Rattle.board.specs.Looks.{pair_refusal}
use Rattle.board.specs.Tables.{written, new_node}

-- what stands after a call: the new where nothing refuses it, else the old
abbrev pub if_accepted : {X : Type 0} → Option Refusal → X → X → X
if_accepted None new old = new
if_accepted (Some e) new old = old

-- the checks of making a table: the sizes, then the lengths of the values board and the marks board
abbrev pub make_refusal : ℕ → ℕ → ℕ → ℕ → Option Refusal
make_refusal n m values marks =
    refuse (n == 0 || nat_lt 16 n || m == 0 || nat_lt 16 m) BadSize
    (refuse (nat_lt values (n * m) || nat_lt marks (n * n * m)) Short None)

-- a new table: every node honest
abbrev pub new_table : (n m : ℕ) → (1 ≤ n) × (n ≤ 16) × (1 ≤ m) × (m ≤ 16) → Table
new_table n m fits = record { n = n; m = m; nodes = replicate 16 new_node; sizes = fits }

-- what making a table answers: the refusal, or else the new table, whose sizes are right
abbrev pub Makes : ℕ → ℕ → Option Refusal → Result Table Refusal → Type 0
Makes n m None r = (sizes : (1 ≤ n) × (n ≤ 16) × (1 ≤ m) × (m ≤ 16)) × (r ≡ Ok (new_table n m sizes))
Makes n m (Some e) r = r ≡ Err e

-- what making a table leaves on the values board and on the marks board: none and 0 where they are used
abbrev pub blank_values : {R : Type 0} → ℕ → ℕ → List (Option R) → List (Option R)
blank_values n m values = written (n * m) (λ _. None) values

abbrev pub blank_marks : ℕ → ℕ → List ℕ → List ℕ
blank_marks n m marks = written (n * n * m) (λ _. 0) marks

-- the checks of a proposal; `fits` is whether the values board is long enough
abbrev pub propose_refusal : Table → Bool → ℕ → ℕ → Option Refusal
propose_refusal t fits node item = pair_refusal t fits node item
