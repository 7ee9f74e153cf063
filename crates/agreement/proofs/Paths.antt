-- What a call answers and leaves, where it is accepted and where it is refused.
use Rattle.std.proofs.Common.{◌≡◌, ℕ, ◌≤◌, true, not, leb, List, length, Some, None, Ok, Err, Option, Result, ap}
use Rattle.std.proofs.lemmas.Bool.{le-leb}
use Rattle.refusal.specs.declared.Refusal.{Refusal}
use Rattle.refusal.specs.Refusals.{answered}
use Rattle.closing.specs.Closings.{sends_cells}
use Rattle.board.specs.Tables.{marks_needed}
use Rattle.board.specs.declared.states.Table.{Table}
use Rattle.board.specs.Setups as board
use Rattle.board.proofs.Paths.{table_path}
use Rattle.agreement.specs.Calls.{send_checks}
use Rattle.agreement.specs.Setups.{Makes}
use Rattle.agreement.specs.Effects.{value_refusal}
use Rattle.agreement.specs.declared.states.Setup.{Setup}
use Rattle.agreement.specs.declared.states.Instance.{Instance}

-- an instance whose table is another, known by its numbers
pub instance_path : (s : Instance) (t u : Table) → t.n ≡ u.n → t.m ≡ u.m → t.nodes ≡ u.nodes
    → ◌≡◌ {A = Instance} (record { table = t; phase = s.phase; round = s.round }) (record { table = u; phase = s.phase; round = s.round })
instance_path s t u a b e = ap (λ (x : Table). record { table = x; phase = s.phase; round = s.round }) (table_path t u a b e)

-- the boards of a send of a cell: both are long enough
pub value_on : {R : Type 0} (s : Instance) (sent : List (Option R)) (marks : List ℕ) (i j c : ℕ) (k : Option Refusal)
    → marks_needed s.table ≤ length sent → marks_needed s.table ≤ length marks
    → send_checks s marks (not (sends_cells s.phase)) i j c ≡ k → value_refusal s sent marks i j c ≡ k
value_on s sent marks i j c k a b e =
    let f : leb (marks_needed s.table) (length sent) ≡ true = le-leb _ _ a in
    let g : leb (marks_needed s.table) (length marks) ≡ true = le-leb _ _ b in
    rw (f, g) e

-- the refusal that an answer carries
abbrev err_of : Result (Unit {0}) Refusal → Option Refusal
err_of (Ok x) = None
err_of (Err e) = Some e

-- an answer that is a refusal names it
pub refused_as : (k : Option Refusal) (e : Refusal) → ◌≡◌ {A = Result (Unit {0}) Refusal} (answered k tt) (Err e) → k ≡ Some e
refused_as None e h = ap err_of h
refused_as (Some f) e h = ap err_of h

-- a setup holds the table that was made
abbrev as_setup : Result Table Refusal → Result Setup Refusal
as_setup (Ok t) = Ok (record { table = t })
as_setup (Err e) = Err e

-- making a setup answers as making its table does
pub makes_setup : (n m : ℕ) (k : Option Refusal) (r : Result Table Refusal) → board.Makes n m k r → Makes n m k (as_setup r)
makes_setup n m None r h = (h.0, ap as_setup h.1)
makes_setup n m (Some e) r h = ap as_setup h
