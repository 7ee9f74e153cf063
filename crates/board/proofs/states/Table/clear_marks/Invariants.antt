use Rattle.std.proofs.Common.{◌≡◌, get_or}
use Rattle.board.specs.Tables.{written, mark_kept}
use Rattle.board.proofs.states.Table.clear_marks.Given as goal

abbrev pub invariant-loop-k : goal.invariant-loop-k
invariant-loop-k l = l.used ≡ written l.k (λ k. mark_kept l.self (get_or l.initial.used k 0) k) l.initial.used
