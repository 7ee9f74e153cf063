-- The marks as the boards keep them, an octet each.
use Rattle.std.specs.Prelude.{ℕ, Bool, true, false, cond, ◌==◌}
use Rattle.closing.specs.declared.types.Mark.{Mark}
use Rattle.closing.specs.declared.types.Mark.TheVariants.{Nothing, Cell, Zero, One}

-- the octet of a mark
abbrev pub octet_of : Mark → ℕ
octet_of Nothing = 0
octet_of Cell = 1
octet_of Zero = 2
octet_of One = 3

-- the mark that an octet names; an octet that is no mark names nothing
abbrev pub mark_named : ℕ → Mark
mark_named k = cond (k == 1) Cell (cond (k == 2) Zero (cond (k == 3) One Nothing))

-- the mark of a bit that was sent
abbrev pub bit_mark : Bool → Mark
bit_mark false = Zero
bit_mark true = One
