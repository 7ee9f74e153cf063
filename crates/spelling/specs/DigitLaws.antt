-- The decimal digits of a number: one by one, and read back.
use Rattle.std.specs.Prelude.{◌≡◌, ℕ, zero, suc, ◌+◌, ◌-◌, ◌*◌, ◌/◌, ◌%◌, ◌^◌, ◌<◌, ◌≤◌, true, false, ltb, List, [], ◌∷◌, ◌++◌, length, take, drop, Some, None, decimal, ◌==◌, nat_eq, nat_le, nat_lt, slice_set, refl}
use Rattle.std.proofs.Common.{sym, ap, ◌∙◌, pow-suc, add-one, arith, rules}
use Rattle.std.proofs.lemmas.Nat.{div_below}
use Rattle.std.proofs.lemmas.Fmt.{decimal_from_appends, decimal_digit, decimal_step, decimal_by_steps, decimal_nonempty, length-decimal-le}
use Rattle.std.proofs.ByRecursion.{All-append}
use Rattle.std.proofs.lemmas.List.{append_assoc, length-set, drop-set}
use Rattle.std.proofs.lemmas.Slice.{between_to_end}
use Rattle.std.proofs.lemmas.Bool.{cond_both, ne_eqb, le-leb, lt-ltb, and_right}
use Rattle.std.specs.List.{AllByRecursion}
use Rattle.lines.specs.Digits.{and_then, digit_of, read_on, decimal_of}
use Rattle.lines.specs.Fields.{fields, is_dash}
use Rattle.spelling.specs.Numbers.{digits_by, digits}
use Rattle.spelling.specs.Words.{word_in}

-- they are what the library writes of a number
in_decimal : (n : ℕ) → n < 2 ^ 64 → digits n ≡ decimal n
unfolding digits
in_decimal n h = decimal_from_appends digits_by (search rules) 20 n h (length-decimal-le 20 n (omega arith) (omega arith) h)

-- a number below 10 is its digit
pub digits_one : (n : ℕ) → n < 10 → digits n ≡ (48 + n) ∷ []
digits_one n h = in_decimal n (omega arith) ∙ decimal_digit n h

-- the digits of a number from 10 on end in its last
pub digits_more : (n : ℕ) → 10 ≤ n → n < 2 ^ 64 → digits n ≡ digits (n / 10) ++ ((48 + n % 10) ∷ [])
digits_more n h k =
    in_decimal n k ∙ decimal_step n h k ∙ ap (λ ds. ds ++ ((48 + n % 10) ∷ [])) (sym (in_decimal (n / 10) (omega arith)))

-- a number from 10 on needs a place before the last
pub place_left : (p n : ℕ) → 10 ≤ n → n < 10 ^ (p + 1) → 1 ≤ p
place_left zero n h k = absurd (omega arith)
place_left (suc p) n h k = omega arith

-- without its last digit a number needs one place less
pub rest_below : (p n : ℕ) → 1 ≤ p → n < 10 ^ (p + 1) → n / 10 < 10 ^ (p - 1 + 1)
rest_below p n h k =
    let same : p - 1 + 1 ≡ p = omega arith in
    let wide : n < 10 ^ p * 10 = rw (add-one, pow-suc 10 p) at k in
    rw same (div_below n 10 (10 ^ p) (omega arith) wide)

-- the last digit is written before those that follow it
pub digits_step : (n p : ℕ) (os whole : List ℕ) → 10 ≤ n → n < 2 ^ 64 → 1 ≤ p → p < length os → digits n ++ drop (p + 1) os ≡ whole
    → digits (n / 10) ++ drop (p - 1 + 1) (slice_set os p (48 + n % 10)) ≡ whole
digits_step n p os whole h f k l e =
    let same : p - 1 + 1 ≡ p = omega arith in
    let d = 48 + n % 10 in
    rw (same, drop-set os p d l) (sym (append_assoc (digits (n / 10)) (d ∷ []) (drop (p + 1) os)) ∙ ap (λ ds. ds ++ drop (p + 1) os) (sym (digits_more n h f)) ∙ e)

-- the first digit is written before all others, and then all of them stand at the end
pub digits_first : (n p w : ℕ) (os whole : List ℕ) → n < 10 → p < w → length os ≡ w → digits n ++ drop (p + 1) os ≡ whole
    → take (w - p) (drop p (slice_set os p (48 + n))) ≡ whole
digits_first n p w os whole h l k e =
    let long : length (slice_set os p (48 + n)) ≤ w = simp length-set (omega arith) in
    let here : p < length os = omega arith in
    between_to_end (slice_set os p (48 + n)) p w long ∙ drop-set os p (48 + n) here ∙ ap (λ ds. ds ++ drop (p + 1) os) (sym (digits_one n h)) ∙ e

-- a digit in ASCII is read as its value
digit_back : (d : ℕ) → d < 10 → digit_of 10 (48 + d) ≡ Some d
digit_back d h =
    let low : nat_le 48 (48 + d) ≡ true = le-leb 48 (48 + d) (omega arith) in
    let high : nat_le (48 + d) 57 ≡ true = le-leb (48 + d) 57 (omega arith) in
    let same : 48 + d - 48 ≡ d = omega arith in
    let below : ltb d 10 ≡ true = lt-ltb d 10 h in
    rw (low, high, same, below)

-- one more digit is read behind those that are read
read_push : (v m b d : ℕ) (bs : List ℕ) → read_on 10 v bs ≡ Some m → digit_of 10 b ≡ Some d → read_on 10 v (bs ++ (b ∷ [])) ≡ Some (m * 10 + d)
read_push v m b d [] e k = let same : v ≡ m = cc in rw (k, same)
read_push v m b d (x ∷ bs) e k =
    elim (digit_of 10 x) as (λ o. and_then o (λ y. read_on 10 (v * 10 + y) bs) ≡ Some m → and_then o (λ y. read_on 10 (v * 10 + y) (bs ++ (b ∷ []))) ≡ Some (m * 10 + d)) [
      | None ↦ λ n. absurd (let z : ◌≡◌ {A = ℕ} 0 1 = cc in omega arith)
      | Some y ↦ λ s. read_push (v * 10 + y) m b d bs s k
    ] e

-- digits are read as the number that they write
read_back : (n : ℕ) → n < 2 ^ 64 → read_on 10 0 (decimal n) ≡ Some n
read_back n h =
    decimal_by_steps (λ m bs. read_on 10 0 bs ≡ Some m)
    (λ m k. let same : 0 * 10 + m ≡ m = omega arith in rw (digit_back m k, same))
    (λ m bs k e. read_push 0 (m / 10) (48 + m % 10) (m % 10) bs e (digit_back (m % 10) (omega arith)) ∙ (let whole : m / 10 * 10 + m % 10 ≡ m = omega arith in rw whole))
    n h

-- a number of up to five digits is read as it is written
pub digits_back : (n : ℕ) → n < 10 ^ 5 → decimal_of (digits n) ≡ Some n
digits_back n h =
    let small : n < 2 ^ 64 = omega arith in
    let low : nat_le 1 (length (decimal n)) ≡ true = le-leb 1 (length (decimal n)) (decimal_nonempty n small) in
    let high : nat_le (length (decimal n)) 5 ≡ true = le-leb (length (decimal n)) 5 (length-decimal-le 5 n (omega arith) h small) in
    rw (in_decimal n small, low, high) (read_back n small)

-- no octet of digits is below 48
high_by : (k n : ℕ) → AllByRecursion (λ b. 48 ≤ b) (digits_by k n)
high_by zero n = tt
high_by (suc k) n =
    cond_both (nat_lt n 10) ((48 + n) ∷ []) (digits_by k (n / 10) ++ ((48 + n % 10) ∷ [])) (AllByRecursion (λ b. 48 ≤ b))
    (λ _. (omega arith, tt))
    (λ _. All-append (λ b. 48 ≤ b) (digits_by k (n / 10)) ((48 + n % 10) ∷ []) (high_by k (n / 10)) (omega arith, tt))

high : (n : ℕ) → AllByRecursion (λ b. 48 ≤ b) (digits n)
unfolding digits
high n = high_by 20 n

-- digits are one field
field_of : (bs : List ℕ) → AllByRecursion (λ b. 48 ≤ b) bs → fields 32 bs ≡ bs ∷ []
field_of [] h = refl
field_of (b ∷ bs) h =
    let here : nat_eq b 32 ≡ false = ne_eqb b 32 (λ e. omega (arith, h.0)) in
    rw (here, field_of bs h.1)

pub digits_field : (n : ℕ) → fields 32 (digits n) ≡ digits n ∷ []
digits_field n = field_of (digits n) (high n)

-- digits are no dash
no_dash : (bs : List ℕ) → AllByRecursion (λ b. 48 ≤ b) bs → is_dash bs ≡ false
no_dash [] h = refl
no_dash (b ∷ bs) h =
    let here : nat_eq b 45 ≡ false = ne_eqb b 45 (λ e. omega (arith, h.0)) in
    and_right (length (b ∷ bs) == 1) (b == 45) here

pub digits_dash : (n : ℕ) → is_dash (digits n) ≡ false
digits_dash n = no_dash (digits n) (high n)

-- a number of 16 bits is read as it is written
pub word_back : (n : ℕ) → n ≤ 65535 → word_in (digits n) ≡ Some n
word_back n h =
    let fits : nat_le n 65535 ≡ true = le-leb n 65535 h in
    rw (digits_back n (omega arith), fits)
