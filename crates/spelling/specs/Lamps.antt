-- A lamp as a field.
use Rattle.std.specs.Prelude.{ℕ, cond, List, [], ◌∷◌, length, drop, Some, None, Option, ◌==◌, slice_index}
use Rattle.std.specs.Option.{option_map}
use Rattle.lines.specs.Digits.{and_then}
use Rattle.reading.specs.declared.lamp.Lamp.{Lamp}
use Rattle.reading.specs.declared.lamp.Lamp.TheVariants.{Dark, Steady, Flashing, Standby}
use Rattle.reading.specs.declared.period.Period.{Period}
use Rattle.reading.specs.Octets.{kept_if}
use Rattle.reading.specs.Periods.{period_of}
use Rattle.spelling.specs.Numbers.{digits}
use Rattle.spelling.specs.Words.{word_in}

-- the period that a number in digits writes
abbrev pub period_in : List ℕ → Option Period
period_in f = and_then (word_in f) period_of

-- the lamp that a letter and what stands behind it spell: D and S alone, F and T with a period
abbrev pub lamp_of_letter : ℕ → List ℕ → Option Lamp
lamp_of_letter letter rest =
    cond (letter == 68) (kept_if (length rest == 0) (Some Dark))
    (cond (letter == 83) (kept_if (length rest == 0) (Some Steady))
    (cond (letter == 70) (option_map Flashing (period_in rest))
    (cond (letter == 84) (option_map Standby (period_in rest)) None)))

-- the lamp that a field spells; an empty field has no letter
abbrev pub lamp_in : List ℕ → Option Lamp
lamp_in f = lamp_of_letter (slice_index f 0) (drop 1 f)

-- the letters D, S, F and T, the last two with the period's tenths
abbrev pub lamp_text : Lamp → List ℕ
lamp_text Dark = 68 ∷ []
lamp_text Steady = 83 ∷ []
lamp_text (Flashing p) = 70 ∷ digits p.tenths
lamp_text (Standby p) = 84 ∷ digits p.tenths
