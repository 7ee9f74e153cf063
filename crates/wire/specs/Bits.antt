-- Bits in octets: item c is bit c mod 8, from the lowest, of octet c div 8, and bits of no item are 0.
use Rattle.std.specs.Prelude.{ℕ, zero, suc, ◌+◌, ◌-◌, ◌*◌, ◌/◌, ◌%◌, ◌^◌, Bool, cond, List, [], ◌∷◌, length, take, drop, Some, None, Option, ◌==◌, slice_index}
use Rattle.std.specs.Int.{from_bool}
use Rattle.refusal.specs.declared.Refusal.TheVariants.{StrangeReading}
use Rattle.refusal.specs.declared.Fault.{Fault}
use Rattle.wire.specs.Faults.{in_message}

-- a bit as a number
abbrev pub bit_number : Bool → ℕ
bit_number b = from_bool b

-- the number of some bits, the first one lowest
abbrev pub octet_of : List Bool → ℕ
octet_of [] = 0
octet_of (b ∷ bs) = bit_number b + 2 * octet_of bs

-- how many octets m bits take
abbrev pub octets_for : ℕ → ℕ
octets_for m = (m + 7) / 8

-- k octets of bits, eight in each
abbrev pub packed : ℕ → List Bool → List ℕ
packed zero bs = []
packed (suc k) bs = octet_of (take 8 bs) ∷ packed k (drop 8 bs)

-- the octets of bits
abbrev pub bit_octets : List Bool → List ℕ
bit_octets bs = packed (octets_for (length bs)) bs

-- the bit that a body has at an item
abbrev pub bit_at : List ℕ → ℕ → Bool
bit_at body i = slice_index body (i / 8) / 2 ^ (i % 8) % 2 == 1

-- the fault of a body of m bits whose last octet has a bit of no item
abbrev pub bits_fault : ℕ → List ℕ → Option Fault
bits_fault m body =
    cond (slice_index body (length body - 1) / 2 ^ (1 + (m - 1) % 8) == 0) None (Some (in_message StrangeReading (4 + length body)))
