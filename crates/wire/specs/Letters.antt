-- The letters of messages, and the steps in which each is sent.
use Rattle.std.specs.Prelude.{◌≡◌, ℕ, Bool, cond, ◌&&◌, Some, None, Option, Result, ◌==◌, nat_le}
use Rattle.std.specs.Option.{ok_or}
use Rattle.wire.specs.declared.message.CellLetter.TheVariants.{Poll, Echo}
use Rattle.wire.specs.declared.message.BitLetter.TheVariants.{Bits, Final}
use Rattle.wire.specs.declared.message.Letter.{Letter}
use Rattle.wire.specs.declared.message.Letter.TheVariants.{OfCells, OfBits}
use Rattle.wire.specs.declared.message.NoLetter.{NoLetter}

-- the octet of a letter: P, E, B or F
abbrev pub letter_octet : Letter → ℕ
letter_octet (OfCells Poll) = 80
letter_octet (OfCells Echo) = 69
letter_octet (OfBits Bits) = 66
letter_octet (OfBits Final) = 70

-- the letter that an octet is, if it is one
abbrev pub letter_of : ℕ → Option Letter
letter_of x =
    cond (x == 80) (Some (OfCells Poll))
    (cond (x == 69) (Some (OfCells Echo))
    (cond (x == 66) (Some (OfBits Bits))
    (cond (x == 70) (Some (OfBits Final)) None)))

-- the result is the letter that the octet is, or says that it is none
abbrev pub Lettered : ℕ → Result Letter NoLetter → Type 0
Lettered x r = r ≡ ok_or (letter_of x) (record {})

-- whether a message with this letter may be sent in a step
abbrev pub takes_step : Letter → ℕ → Bool
takes_step (OfCells Poll) step = step == 1
takes_step (OfCells Echo) step = step == 2
takes_step (OfBits l) step = nat_le 3 step && nat_le step 302
