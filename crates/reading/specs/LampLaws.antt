-- What is written of a lamp reads back, and what is read is written so.
use Rattle.std.specs.Prelude.{◌≡◌, ℕ, ◌+◌, ◌*◌, ◌/◌, ◌%◌, ◌<◌, Bool, true, false, cond, ◌⊎◌, List, ◌∷◌, Some, None, Option, ◌==◌, slice_index, refl}
use Rattle.std.proofs.Common.{sym, ap, ◌∙◌, inl, inr, ⊎_elim, arith}
use Rattle.std.specs.Option.{option_map}
use Rattle.std.proofs.lemmas.Bool.{eqb-true}
use Rattle.reading.specs.declared.lamp.Lamp.{Lamp}
use Rattle.reading.specs.declared.lamp.Lamp.TheVariants.{Dark, Steady, Flashing, Standby}
use Rattle.reading.specs.declared.period.Period.{Period}
use Rattle.reading.specs.Octets.{pair, pair_at, kept_if}
use Rattle.reading.specs.Periods.{period_of}
use Rattle.reading.specs.Lamps.{lamp_of, lamp_reads, lamp_octets}
use Rattle.reading.specs.OctetLaws.{kept_some, exactly_some, tagged_whole}
use Rattle.reading.specs.PeriodLaws.{period_of_tenths, of_period}

-- a lamp's octets read as that lamp
pub lamp_back : (l : Lamp) → lamp_reads (lamp_octets l) ≡ Some l
lamp_back Dark = refl
lamp_back Steady = refl
lamp_back (Flashing p) =
    let e : p.tenths ≡ p.tenths / 256 * 256 + p.tenths % 256 = omega arith in
    ap (option_map Flashing) (period_of_tenths (p.tenths / 256 * 256 + p.tenths % 256) p e)
lamp_back (Standby p) =
    let e : p.tenths ≡ p.tenths / 256 * 256 + p.tenths % 256 = omega arith in
    ap (option_map Standby) (period_of_tenths (p.tenths / 256 * 256 + p.tenths % 256) p e)

-- which way a test went
cond_ways : {A : Type 0} (b : Bool) (x y z : A) → cond b x y ≡ z → ((b ≡ true) × (x ≡ z)) ⊎ ((b ≡ false) × (y ≡ z))
cond_ways true x y z e = inl (refl, e)
cond_ways false x y z e = inr (refl, e)

mapped_some : {A B : Type 0} (f : A → B) (o : Option A) (y : B) → option_map f o ≡ Some y → (x : A) × ((o ≡ Some x) × (f x ≡ y))
mapped_some f (Some x) y e = (x, (refl, cc))
mapped_some f None y e = absurd (let z : ◌≡◌ {A = ℕ} 0 1 = cc in omega arith)

-- the octets of a tag and a number
abbrev tagged : ℕ → ℕ → List ℕ
tagged tag n = tag ∷ pair n

-- a lamp without a period is of its tag and 0
plain : (tag n t : ℕ) (l k : Lamp) → lamp_octets l ≡ tagged t 0 → (tag == t) ≡ true → kept_if (n == 0) (Some l) ≡ Some k → lamp_octets k ≡ tagged tag n
plain tag n t l k s a e =
    let h = kept_some (n == 0) (Some l) k e in
    let i : l ≡ k = cc h.1 in
    let j = eqb-true tag t a in
    let z = eqb-true n 0 h.0 in
    ap lamp_octets (sym i) ∙ s ∙ cc

-- a lamp with a period is of its tag and the period's tenths
timed : (tag n t : ℕ) (f : Period → Lamp) (k : Lamp) → ((p : Period) → lamp_octets (f p) ≡ tagged t p.tenths) → (tag == t) ≡ true
    → option_map f (period_of n) ≡ Some k → lamp_octets k ≡ tagged tag n
timed tag n t f k s a e =
    let h = mapped_some f (period_of n) k e in
    let j = eqb-true tag t a in
    let z = of_period n h.0 h.1.0 in
    ap lamp_octets (sym h.1.1) ∙ s h.0 ∙ cc

-- the lamp of a tag and a number is written as them
of_lamp : (tag n : ℕ) (l : Lamp) → lamp_of tag n ≡ Some l → lamp_octets l ≡ tagged tag n
of_lamp tag n l e =
    ⊎_elim (λ a. plain tag n 0 Dark l refl a.0 a.1)
    (λ a. ⊎_elim (λ b. plain tag n 1 Steady l refl b.0 b.1)
    (λ b. ⊎_elim (λ d. timed tag n 2 Flashing l (λ p. refl) d.0 d.1)
    (λ d. ⊎_elim (λ h. timed tag n 3 Standby l (λ p. refl) h.0 h.1)
    (λ h. absurd (let z : ◌≡◌ {A = ℕ} 0 1 = cc h.1 in omega arith))
    (cond_ways (tag == 3) (option_map Standby (period_of n)) None (Some l) d.1))
    (cond_ways (tag == 2) (option_map Flashing (period_of n)) _ (Some l) b.1))
    (cond_ways (tag == 1) (kept_if (n == 0) (Some Steady)) _ (Some l) a.1))
    (cond_ways (tag == 0) (kept_if (n == 0) (Some Dark)) _ (Some l) e)

-- octets that read as a lamp are its octets
pub lamp_whole : (o : List ℕ) (l : Lamp) → ((i : ℕ) → slice_index o i < 256) → lamp_reads o ≡ Some l → lamp_octets l ≡ o
lamp_whole o l b e =
    let h = exactly_some 3 o (lamp_of (slice_index o 0) (pair_at o 1)) l e in
    of_lamp (slice_index o 0) (pair_at o 1) l h.1 ∙ tagged_whole o h.0 (b 2)
