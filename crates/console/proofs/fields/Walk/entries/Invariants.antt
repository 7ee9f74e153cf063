use Rattle.std.proofs.Common.{◌≡◌, ◌+◌, ◌++◌, length, drop, replicate, Ok}
use Rattle.console.specs.Grammar.{entries_of}
use Rattle.console.proofs.fields.Walk.entries.Given as goal

-- the entries so far, and the walk at the next field
abbrev pub invariant-loop-entry : goal.invariant-loop-entry
invariant-loop-entry l =
    (length l.entry-items ≡ l.count)
    × (Ok (l.entry-items ++ drop l.count (replicate 8 0)) ≡ entries_of l.initial.self.fields l.entry-index)
    × (l.self ≡ record { fields = l.initial.self.fields; index = l.entry-index + 1 })
