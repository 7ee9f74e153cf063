-- What is spelled of a lamp is read back, and is one field.
use Rattle.std.specs.Prelude.{◌≡◌, ℕ, ◌-◌, List, [], ◌∷◌, length, take, drop, Some, Option, slice_index, refl}
use Rattle.std.proofs.Common.{sym, ap, ◌∙◌, arith}
use Rattle.std.proofs.lemmas.List.{take_rest}
use Rattle.std.specs.Option.{option_map}
use Rattle.lines.specs.Digits.{and_then}
use Rattle.lines.specs.Fields.{fields, in_front}
use Rattle.reading.specs.declared.lamp.Lamp.{Lamp}
use Rattle.reading.specs.declared.lamp.Lamp.TheVariants.{Dark, Steady, Flashing, Standby}
use Rattle.reading.specs.declared.period.Period.{Period}
use Rattle.reading.specs.Periods.{period_of}
use Rattle.reading.specs.PeriodLaws.{period_of_tenths}
use Rattle.spelling.specs.Lamps.{period_in, lamp_of_letter, lamp_in, lamp_text}
use Rattle.spelling.specs.Numbers.{digits}
use Rattle.spelling.specs.DigitLaws.{digits_field, word_back}

-- a period is read as its tenths are written
period_back : (p : Period) → period_in (digits p.tenths) ≡ Some p
period_back p =
    ap (λ (o : Option ℕ). and_then o period_of) (word_back p.tenths (omega (arith, p.ok.1)))
    ∙ period_of_tenths p.tenths p refl

-- the lamp of a letter and of the period that stands behind it
pub lamp_timed : (letter : ℕ) (make : Period → Lamp) → ((bs : List ℕ) → lamp_of_letter letter bs ≡ option_map make (period_in bs))
    → (f : List ℕ) (o : Option Period) → slice_index f 0 ≡ letter → o ≡ period_in (take (length f - 1) (drop 1 f)) → option_map make o ≡ lamp_in f
lamp_timed letter make spells f o l e =
    ap (option_map make) (e ∙ ap period_in (take_rest f 1)) ∙ sym (spells (drop 1 f)) ∙ ap (λ b. lamp_of_letter b (drop 1 f)) (sym l)

pub lamp_back : (l : Lamp) → lamp_in (lamp_text l) ≡ Some l
lamp_back Dark = refl
lamp_back Steady = refl
lamp_back (Flashing p) = ap (option_map Flashing) (period_back p)
lamp_back (Standby p) = ap (option_map Standby) (period_back p)

pub lamp_field : (l : Lamp) → fields 32 (lamp_text l) ≡ lamp_text l ∷ []
lamp_field Dark = refl
lamp_field Steady = refl
lamp_field (Flashing p) = ap (in_front 70) (digits_field p.tenths)
lamp_field (Standby p) = ap (in_front 84) (digits_field p.tenths)
