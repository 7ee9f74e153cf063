-- Sample messages, over the definitions that the contracts cite.
use Rattle.std.specs.Prelude.{◌≡◌, ℕ, true, false, List, [], ◌∷◌, Some, None, Ok, Err, Result}
use Rattle.refusal.specs.declared.Refusal.TheVariants.{NoNode, Torn, StrangeReading, OutOfTurn}
use Rattle.refusal.specs.declared.Fault.{Fault}
use Rattle.refusal.specs.declared.Layer.TheVariants.{Kind}
use Rattle.reading.specs.declared.bearing.Bearing.{Bearing}
use Rattle.reading.specs.declared.lamp.Lamp.{Lamp}
use Rattle.reading.specs.Bearings.{bearing_reads}
use Rattle.reading.specs.Lamps.{lamp_reads}
use Rattle.wire.specs.declared.message.CellLetter.TheVariants.{Poll}
use Rattle.wire.specs.declared.message.BitLetter.TheVariants.{Bits}
use Rattle.wire.specs.Faults.{in_message}
use Rattle.wire.specs.Items.{strange_at}
use Rattle.wire.specs.Messages.{Contents, with_cells, with_bits, heading}
use Rattle.wire.specs.Reads.{read_contents}

-- octets read as a message of bearings, for 4 nodes and m items
abbrev pub bearings_read : ℕ → List ℕ → Result (Contents Bearing) Fault
bearings_read m o = read_contents 2 bearing_reads 4 m o

-- octets read as a message of lamps, for 4 nodes and m items
abbrev pub lamps_read : ℕ → List ℕ → Result (Contents Lamp) Fault
lamps_read m o = read_contents 3 lamp_reads 4 m o

-- how sample octets are read
pub record Samples : Type 0 where
  -- node 3 polls: 10 degrees of item 0, none of item 1
  pub poll : bearings_read 2 (80 ∷ 0 ∷ 1 ∷ 3 ∷ 2 ∷ 1 ∷ 3 ∷ 232 ∷ 0 ∷ 0 ∷ 0 ∷ [])
      ≡ Ok (with_cells (heading Poll 1 3) (Some (record { hundredths = 1000 }) ∷ None ∷ []))
  -- node 0 in step 302: bit 1 of items 1 and 8, bit 0 of the other seven
  pub bits : bearings_read 9 (66 ∷ 1 ∷ 46 ∷ 0 ∷ 9 ∷ 2 ∷ 1 ∷ [])
      ≡ Ok (with_bits (heading Bits 302 0) (false ∷ true ∷ false ∷ false ∷ false ∷ false ∷ false ∷ false ∷ true ∷ []))
  -- a bit of an item 9, which there is not
  pub unused : bearings_read 9 (66 ∷ 1 ∷ 46 ∷ 0 ∷ 9 ∷ 2 ∷ 3 ∷ []) ≡ Err (in_message StrangeReading 6)
  -- a flag 2 at item 1
  pub flag : bearings_read 2 (80 ∷ 0 ∷ 1 ∷ 3 ∷ 2 ∷ 1 ∷ 3 ∷ 232 ∷ 2 ∷ 0 ∷ 0 ∷ []) ≡ Err (in_message StrangeReading 8)
  -- a flag 0 before octets that are not zero
  pub blank : bearings_read 1 (80 ∷ 0 ∷ 1 ∷ 3 ∷ 1 ∷ 0 ∷ 0 ∷ 7 ∷ []) ≡ Err (in_message StrangeReading 5)
  -- octets that are no lamp
  pub strange : lamps_read 1 (69 ∷ 0 ∷ 2 ∷ 0 ∷ 1 ∷ 1 ∷ 4 ∷ 0 ∷ 0 ∷ []) ≡ Err (strange_at Kind 5)
  -- a wrong length, a wrong node and a wrong step at once
  pub torn : bearings_read 1 (70 ∷ 0 ∷ 2 ∷ 4 ∷ 1 ∷ 0 ∷ 0 ∷ []) ≡ Err (in_message Torn 7)
  -- a wrong node and a wrong step
  pub node : bearings_read 1 (70 ∷ 0 ∷ 2 ∷ 4 ∷ 1 ∷ 2 ∷ []) ≡ Err (in_message NoNode 3)
  -- a wrong step
  pub turn : bearings_read 1 (70 ∷ 0 ∷ 2 ∷ 3 ∷ 1 ∷ 2 ∷ []) ≡ Err (in_message OutOfTurn 1)
