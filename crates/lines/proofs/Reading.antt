use Rattle.std.proofs.Common.{◌≡◌, ℕ, ◌+◌, ◌*◌, ◌^◌, ◌<◌, ◌≤◌, true, leb, List, length, get_or, drop, Some, None, ◌∙◌, mul_comm, pow-suc, add-one, arith}
use native.Mathlib.Nat.{pow-zero, pow-le-pow_right}
use Rattle.std.proofs.lemmas.Nat.{mul-add-lt}
use Rattle.std.proofs.lemmas.List.{at_drop_more, at_drop_all}
use Rattle.std.proofs.lemmas.Bool.{le-leb}
use Rattle.lines.specs.Digits.{digit_of, read_on, numeral_of}

-- a number of no digits is 0
pub below_none : (base : ℕ) → 0 < base ^ 0
below_none base = rw (pow-zero base) (omega arith)

-- one digit more
pub below_more : (base i v d : ℕ) → v < base ^ i → d < base → v * base + d < base ^ (i + 1)
below_more base i v d h k = rw (add-one, pow-suc base i, mul_comm (base ^ i) base) (mul-add-lt v base d (base ^ i) h k)

-- a number of fewer digits fits where the largest fits
pub below_fits : (base most i v d : ℕ) → 0 < base → base ^ most ≤ 2 ^ 64 → i < most → v < base ^ i → d < base → v * base + d < 2 ^ 64
below_fits base most i v d p fits h k l =
    let up : base ^ (i + 1) ≤ base ^ most = pow-le-pow_right p (omega arith) in
    omega (arith, below_more base i v d k l)

-- the digits that are left, one digit on
pub read_more : (base v : ℕ) (bs : List ℕ) (i d : ℕ) → i < length bs → digit_of base (get_or bs i 0) ≡ Some d → read_on base v (drop i bs) ≡ read_on base (v * base + d) (drop (i + 1) bs)
read_more base v bs i d h e = at_drop_more (read_on base v) bs i 0 h ∙ (rw e)

-- at an octet that is no digit
pub read_none : (base v : ℕ) (bs : List ℕ) (i : ℕ) → i < length bs → digit_of base (get_or bs i 0) ≡ None → read_on base v (drop i bs) ≡ None
read_none base v bs i h e = at_drop_more (read_on base v) bs i 0 h ∙ (rw e)

-- at the end
pub read_all : (base v : ℕ) (bs : List ℕ) (i : ℕ) → length bs ≤ i → read_on base v (drop i bs) ≡ Some v
read_all base v bs i h = at_drop_all (read_on base v) bs i h

-- a field of a fitting length
pub numeral_fits : (base least most : ℕ) (bs : List ℕ) → least ≤ length bs → length bs ≤ most → numeral_of base least most bs ≡ read_on base 0 bs
numeral_fits base least most bs h k =
    let low : leb least (length bs) ≡ true = le-leb least (length bs) h in
    let high : leb (length bs) most ≡ true = le-leb (length bs) most k in
    rw (low, high)
