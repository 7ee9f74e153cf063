use Rattle.play.specs.Lending.{lent, SameBoards, SameLengths}
use Rattle.play.proofs.Pushes.{SoFar}
use Rattle.play.proofs.script.make_calls.Given as goal

-- the first k calls were made
abbrev pub invariant-loop-k : goal.invariant-loop-k
invariant-loop-k g l =
    SoFar g.R.Reading.meaning (g.C.Coin.tosses l.coin) l.initial.instance l.instance (lent l.initial.boards) (lent l.boards) l.calls l.k l.initial.answers l.answers
    × SameBoards l.boards l.initial.boards
    × SameLengths (lent l.boards) (lent l.initial.boards)
