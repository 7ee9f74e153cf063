-- What writing and reading make of each other.
use Rattle.std.specs.Prelude.{◌≡◌, ℕ, ◌<◌, ◌≤◌, List, length, Some, Option, slice_index}

-- writing and reading are each other's inverse, over octets of one width from 1 to 8
pub record RoundTrips {R : Type 0} (width : ℕ) (octets : R → List ℕ) (reads : List ℕ → Option R) : Type 0 where
  -- a width is 1 to 8
  pub narrow : (1 ≤ width) × (width ≤ 8)
  -- every reading takes that many octets
  pub long : (r : R) → length (octets r) ≡ width
  -- what is written reads back unchanged
  pub back : (r : R) → reads (octets r) ≡ Some r
  -- octets that are read are those that the reading writes
  pub whole : (o : List ℕ) (r : R) → ((i : ℕ) → slice_index o i < 256) → reads o ≡ Some r → octets r ≡ o
