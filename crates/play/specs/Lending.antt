-- The boards as a struct lends them.
use Rattle.std.specs.Prelude.{◌≡◌, length}
use Rattle.play.specs.declared.boards.Boards.{Boards}
use Rattle.play.specs.Moves.{Lent}

-- what stands on the boards
abbrev pub lent : {R : Type 0} → Boards R → Lent R
lent b = record { values = b.values.now; scratch = b.scratch.now; sent = b.sent.now; marks = b.marks.now }

-- the boards are those that were lent
pub record SameBoards {R : Type 0} (a b : Boards R) : Type 0 where
  pub values : a.values.ghost_name ≡ b.values.ghost_name
  pub scratch : a.scratch.ghost_name ≡ b.scratch.ghost_name
  pub sent : a.sent.ghost_name ≡ b.sent.ghost_name
  pub marks : a.marks.ghost_name ≡ b.marks.ghost_name

-- boards of the same lengths
pub record SameLengths {R : Type 0} (b b' : Lent R) : Type 0 where
  pub values : length b.values ≡ length b'.values
  pub scratch : length b.scratch ≡ length b'.scratch
  pub sent : length b.sent ≡ length b'.sent
  pub marks : length b.marks ≡ length b'.marks
