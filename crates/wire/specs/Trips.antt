-- What writing and reading messages make of each other.
use Rattle.std.specs.Prelude.{◌≡◌, ℕ, ◌<◌, false, List, length, None, Ok, Option, slice_index, slice_index_or}
use Rattle.wire.specs.Looks.{cell_answer, bit_answer}
use Rattle.wire.specs.Messages.{Parts, Contents, with_cells, with_bits, message_octets, contents_of}
use Rattle.wire.specs.Reads.{read_answer, read_contents}
use Rattle.wire.specs.Writes.{contents_answer}

module _ {X : Type 0} (w : ℕ) (octets : X → List ℕ) (reads : List ℕ → Option X) where
  -- contents that may be written take the octets that the writer says, and these are read as the same contents
  abbrev pub WrittenReadsBack : Type 0
  WrittenReadsBack =
      (n m places k : ℕ) (c : Contents X) → contents_answer w n m c places ≡ Ok k
      → (length (message_octets w octets c) ≡ k) × (read_contents w reads n m (message_octets w octets c) ≡ Ok c)

  -- octets that are read as a message are those that its contents give, and these contents may be written
  abbrev pub ReadWasWritten : Type 0
  ReadWasWritten =
      (n m : ℕ) (o : List ℕ) (c : Contents X) → ((i : ℕ) → slice_index o i < 256) → read_contents w reads n m o ≡ Ok c
      → (message_octets w octets c ≡ o) × (contents_answer w n m c (length o) ≡ Ok (length o))

module _ {X : Type 0} (w : ℕ) (reads : List ℕ → Option X) where
  -- what a message answers for an item of its contents
  abbrev pub AnswersAt : Parts → ℕ → Contents X → Type 0
  AnswersAt p i (with_cells h cells) = cell_answer w reads p i ≡ Ok (slice_index_or cells i None)
  AnswersAt p i (with_bits h bits) = bit_answer p i ≡ Ok (slice_index_or bits i false)

  -- a message that is read answers for each item what its contents say
  abbrev pub ItemsAsSaid : Type 0
  ItemsAsSaid =
      (n m i : ℕ) (o : List ℕ) (p : Parts) → read_answer w reads n m o ≡ Ok p → i < m → AnswersAt p i (contents_of w reads p)
