-- A period is known by its tenths.
use Rattle.std.specs.Prelude.{◌≡◌, ℕ, ◌≤◌, Bool, true, false, Some, nat_le, refl}
use Rattle.std.proofs.Common.{sym, ap, arith}
use mathlib.Core.HLevel.{×_prop, is_prop→PathP}
use Rattle.std.proofs.Math.Bridge.{le_prop}
use Rattle.std.proofs.lemmas.Bool.{le-leb, and_from}
use Rattle.reading.specs.declared.period.Period.{Period}
use Rattle.reading.specs.Periods.{in_range, in_range_bounds, period_where, period_of}

-- two periods of equal tenths are one
pub period_path : (p q : Period) → p.tenths ≡ q.tenths → p ≡ q
period_path p q e =
    λ i. record {
      tenths = e i;
      ok = is_prop→PathP (λ k. (1 ≤ e k) × (e k ≤ 600)) (λ k. ×_prop le_prop le_prop) p.ok q.ok i;
    }

where_some : (n : ℕ) (p : Period) → p.tenths ≡ n → (b : Bool) (shown : b ≡ true → (1 ≤ n) × (n ≤ 600)) → b ≡ true
    → period_where n b shown ≡ Some p
where_some n p e true shown t = ap Some (period_path (record { tenths = n; ok = shown refl }) p (sym e))
where_some n p e false shown t = cc

-- a period is the period of its tenths
pub period_of_tenths : (n : ℕ) (p : Period) → p.tenths ≡ n → period_of n ≡ Some p
period_of_tenths n p e =
    where_some n p e (in_range n) (in_range_bounds n)
    (and_from (nat_le 1 n) (nat_le n 600) (le-leb 1 n (omega (arith, p.ok.0))) (le-leb n 600 (omega (arith, p.ok.1))))

from_where : (n : ℕ) (b : Bool) (shown : b ≡ true → (1 ≤ n) × (n ≤ 600)) (p : Period) → period_where n b shown ≡ Some p → p.tenths ≡ n
from_where n true shown p e =
    let q : ◌≡◌ {A = Period} (record { tenths = n; ok = shown refl }) p = cc in
    sym (ap (λ (x : Period). x.tenths) q)
from_where n false shown p e = absurd (let z : ◌≡◌ {A = ℕ} 0 1 = cc in omega arith)

-- the period of n tenths has n tenths
pub of_period : (n : ℕ) (p : Period) → period_of n ≡ Some p → p.tenths ≡ n
of_period n p e = from_where n (in_range n) (in_range_bounds n) p e
