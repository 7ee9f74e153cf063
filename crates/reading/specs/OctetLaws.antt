-- Octets of an exact number are their elements, and two of them are the pair of their number.
use Rattle.std.specs.Prelude.{◌≡◌, ℕ, ◌+◌, ◌*◌, ◌/◌, ◌%◌, ◌<◌, Bool, true, false, List, [], ◌∷◌, length, Some, Option, ◌==◌, slice_index, refl}
use Rattle.std.proofs.Common.{ap, arith}
use Rattle.std.proofs.lemmas.Bool.{eqb-true}
use Rattle.reading.specs.Octets.{pair, pair_at, kept_if, exactly}

-- where something is kept the test has hit
pub kept_some : {X : Type 0} (b : Bool) (x : Option X) (r : X) → kept_if b x ≡ Some r → (b ≡ true) × (x ≡ Some r)
kept_some true x r e = (refl, e)
kept_some false x r e = absurd (let z : ◌≡◌ {A = ℕ} 0 1 = cc in omega arith)

-- octets of which something is read have the exact number
pub exactly_some : {X : Type 0} (w : ℕ) (o : List ℕ) (x : Option X) (r : X) → exactly w o x ≡ Some r → (length o ≡ w) × (x ≡ Some r)
exactly_some w o x r e =
    let h = kept_some (length o == w) x r e in
    (eqb-true (length o) w h.0, h.1)

-- two octets hold the pair of their number
pub pair_whole : (o : List ℕ) → length o ≡ 2 → slice_index o 1 < 256 → pair (pair_at o 0) ≡ o
pair_whole [] h s = absurd (omega arith)
pair_whole (x ∷ []) h s = absurd (omega arith)
pair_whole (x ∷ y ∷ []) h s =
    let hi : (x * 256 + y) / 256 ≡ x = omega arith in
    let lo : (x * 256 + y) % 256 ≡ y = omega arith in
    rw (hi, lo)
pair_whole (x ∷ y ∷ z ∷ zs) h s = absurd (omega arith)

-- an octet before such a pair changes nothing
pub tagged_whole : (o : List ℕ) → length o ≡ 3 → slice_index o 2 < 256 → slice_index o 0 ∷ pair (pair_at o 1) ≡ o
tagged_whole [] h s = absurd (omega arith)
tagged_whole (x ∷ xs) h s = ap (λ l. x ∷ l) (pair_whole xs (omega arith) s)
