use Rattle.std.proofs.Common.{◌≡◌, ◌+◌, ◌*◌, ◌++◌, drop, count_by}
use Rattle.std.specs.List.{range_with_len}
use Rattle.board.specs.Lists.{entries}
use Rattle.board.proofs.Entries.{open_at}
use Rattle.board.proofs.states.Table.list_undecided.Given as goal

abbrev pub invariant-loop-node : goal.invariant-loop-node
invariant-loop-node l =
    (l.count ≡ count_by (open_at l.self) (range_with_len 0 (l.node * l.self.m)))
    × (l.list ≡ entries l.self (l.node * l.self.m) ++ drop l.count l.fn.list)

abbrev pub invariant-loop-item : goal.invariant-loop-item
invariant-loop-item l =
    (l.count ≡ count_by (open_at l.self) (range_with_len 0 (l.node * l.self.m + l.item)))
    × (l.list ≡ entries l.self (l.node * l.self.m + l.item) ++ drop l.count l.fn.list)
