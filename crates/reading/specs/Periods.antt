-- The range of a period, and the period of a number of tenths.
use Rattle.std.specs.Prelude.{◌≡◌, ℕ, ◌≤◌, Bool, true, false, ◌&&◌, Some, None, Option, nat_le, refl}
use Rattle.std.proofs.lemmas.Bool.{leb-true, and_parts}
use Rattle.reading.specs.declared.period.Period.{Period}

-- whether so many tenths of a second are a period
abbrev pub in_range : ℕ → Bool
in_range n = nat_le 1 n && nat_le n 600

-- the test means what it says
pub in_range_bounds : (n : ℕ) → in_range n ≡ true → (1 ≤ n) × (n ≤ 600)
in_range_bounds n e =
    let h = and_parts (nat_le 1 n) (nat_le n 600) e in
    (leb-true 1 n h.0, leb-true n 600 h.1)

-- the period of n tenths where a test hits that shows them to be in range
abbrev pub period_where : (n : ℕ) (b : Bool) → (b ≡ true → (1 ≤ n) × (n ≤ 600)) → Option Period
period_where n true shown = Some (record { tenths = n; ok = shown refl })
period_where n false shown = None

-- the period of n tenths, if there is one
abbrev pub period_of : ℕ → Option Period
period_of n = period_where n (in_range n) (in_range_bounds n)
