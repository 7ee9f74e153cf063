-- The checks of the sends, with those of the lent boards.
use Rattle.std.specs.Prelude.{ℕ, ◌&&◌, List, Option}
use Rattle.refusal.specs.declared.Refusal.{Refusal}
use Rattle.board.specs.Tables.{marks_needed, fits}
use Rattle.agreement.specs.declared.states.Instance.{Instance}
use Rattle.agreement.specs.Calls.{send_value_refusal, send_bit_refusal}

-- the checks of sending a cell, with those of the lent boards
abbrev pub value_refusal : {R : Type 0} → Instance → List (Option R) → List ℕ → ℕ → ℕ → ℕ → Option Refusal
value_refusal s sent marks sender receiver item =
    send_value_refusal s marks (fits (marks_needed s.table) sent && fits (marks_needed s.table) marks) sender receiver item

-- the checks of sending a bit, with that of the lent board
abbrev pub bit_refusal : Instance → List ℕ → ℕ → ℕ → ℕ → ℕ → Option Refusal
bit_refusal s marks sender receiver item bit = send_bit_refusal s marks (fits (marks_needed s.table) marks) sender receiver item bit
