-- Where in a run each line is in turn.
use Rattle.std.specs.Prelude.{Bool, true, false, ◌||◌}
use Rattle.console.specs.declared.types.Letter.{Letter}
use Rattle.console.specs.declared.types.Letter.TheVariants as letter
use Rattle.console.specs.declared.types.Turn.{Turn}
use Rattle.console.specs.declared.types.Turn.TheVariants as turn

-- nothing is made yet
abbrev pub is_first : Turn → Bool
is_first turn.First = true
is_first turn.Setup = false
is_first turn.Running = false
is_first turn.Ended = false

-- a setup stands
abbrev pub is_setup : Turn → Bool
is_setup turn.First = false
is_setup turn.Setup = true
is_setup turn.Running = false
is_setup turn.Ended = false

-- an instance runs
abbrev pub is_running : Turn → Bool
is_running turn.First = false
is_running turn.Setup = false
is_running turn.Running = true
is_running turn.Ended = false

-- there is an outcome
abbrev pub is_ended : Turn → Bool
is_ended turn.First = false
is_ended turn.Setup = false
is_ended turn.Running = false
is_ended turn.Ended = true

-- whether a letter's line is in turn
abbrev pub in_turn : Turn → Letter → Bool
in_turn t letter.Make = is_first t
in_turn t letter.Faulty = is_setup t
in_turn t letter.Propose = is_setup t
in_turn t letter.Strip = is_setup t
in_turn t letter.Open = is_setup t
in_turn t letter.Value = is_running t
in_turn t letter.Bit = is_running t
in_turn t letter.Final = is_running t
in_turn t letter.Close = is_running t
in_turn t letter.Look = is_running t || is_ended t
in_turn t letter.End = is_running t
