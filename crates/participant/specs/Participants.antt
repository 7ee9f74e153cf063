-- A participant as plain lists, and what its calls make of it.
use Rattle.std.specs.Prelude.{◌≡◌, ℕ, ◌≤◌, true, not, ◌||◌, List, [], ◌++◌, map, length, replicate, Some, None, Ok, Err, filter, Option, Result, ◌==◌, nat_le, nat_lt, slice_index_or}
use Rattle.std.specs.List.{range_with_len}
use Rattle.refusal.specs.declared.Refusal.{Refusal}
use Rattle.refusal.specs.declared.Refusal.TheVariants.{BadSize, Short, NoNode, Torn}
use Rattle.refusal.specs.declared.Fault.{Fault}
use Rattle.refusal.specs.Refusals.{refuse}
use Rattle.coin.specs.Tosses.{strip_toss}
use Rattle.agreement.specs.declared.states.Instance.{Instance}
use Rattle.agreement.specs.Setups.{made, opened}
use Rattle.law.specs.declared.calls.SetupCall.{SetupCall}
use Rattle.law.specs.declared.calls.SetupCall.TheVariants.{MarkFaulty, Propose}
use Rattle.law.specs.declared.calls.Call.{Call}
use Rattle.law.specs.Runs.{SetupMove, Prepared, setup_run, Move, World}
use Rattle.play.specs.Played.{bad_sizes}
use Rattle.wire.specs.Messages.{Parts}
use Rattle.wire.specs.Reads.{read_answer}
use Rattle.relay.specs.Deliveries.{calls_of, deliver_refusal}
use Rattle.participant.specs.Held.{Held}

-- the check of the sizes
abbrev pub size_refusal : ℕ → ℕ → Option Refusal
size_refusal n m = refuse (bad_sizes n m) BadSize None

-- the checks of beginning: the sizes, the number of the strip's entries, the number of the cells, and the node
abbrev pub begin_refusal : ℕ → ℕ → ℕ → ℕ → ℕ → Option Refusal
begin_refusal n m i entries cells =
    refuse (bad_sizes n m) BadSize
    (refuse (entries == 0 || nat_lt 8 entries) Short
    (refuse (not (cells == m)) Torn
    (refuse (nat_le n i) NoNode None)))

-- the sizes of a run
abbrev pub Right : ℕ → ℕ → Type 0
Right n m = (1 ≤ n) × (n ≤ 16) × (1 ≤ m) × (m ≤ 16)

module _ {R : Type 0} where
  -- a call on the setup, whose boards are long enough
  abbrev pub setup_move : SetupCall R → SetupMove R
  setup_move k = record { call = k; fits = true }

  -- every node but node i is marked faulty
  abbrev pub faulty_moves : ℕ → ℕ → List (SetupMove R)
  faulty_moves n i = map (λ j. setup_move (MarkFaulty j)) (filter (λ j. not (j == i)) (range_with_len 0 n))

  -- node i is given its first cells
  abbrev pub cell_moves : ℕ → List (Option R) → List (SetupMove R)
  cell_moves i cells = map (λ c. setup_move (Propose i c (slice_index_or cells c None))) (range_with_len 0 (length cells))

  -- the setup of a run of node i on a blank values board: every other node is faulty, and node i begins with these cells
  abbrev pub first_setup : (n m : ℕ) → Right n m → ℕ → List (Option R) → Prepared R
  first_setup n m sizes i cells =
      setup_run (record { table = (made n m sizes).table; values = replicate 256 None }) (faulty_moves n i ++ cell_moves i cells)

  -- what making the instance of such a run answers and leaves on blank boards: the refusal, or else the instance, whose sizes are right
  abbrev pub Opens : ℕ → ℕ → ℕ → List (Option R) → Option Refusal → List (Option R) → List ℕ → Result Instance Refusal → Type 0
  Opens n m i cells None values marks r = (sizes : Right n m)
      × (r ≡ Ok (opened (record { table = (first_setup n m sizes i cells).table })))
      × (values ≡ (first_setup n m sizes i cells).values)
      × (marks ≡ replicate 4096 0)
  Opens n m i cells (Some e) values marks r = r ≡ Err e

  -- the instance that a setup is opened into, with its values board, and with blank boards
  abbrev pub opened_world : Prepared R → World R
  opened_world p = record { state = opened (record { table = p.table }); values = p.values; sent = replicate 4096 None; marks = replicate 4096 0 }

  -- what beginning answers: the refusal, or else the new participant, whose sizes are right
  abbrev pub Begins : ℕ → ℕ → ℕ → List ℕ → List (Option R) → Option Refusal → Result (Held R) Refusal → Type 0
  Begins n m i es cells None r = (sizes : Right n m)
      × (r ≡ Ok (record { node = i; world = opened_world (first_setup n m sizes i cells); strip = es }))
  Begins n m i es cells (Some e) r = r ≡ Err e

  -- a call on the instance, whose boards are long enough, and whose coin is a strip with these entries
  abbrev pub strip_move : List ℕ → Call R → Move R
  strip_move es k = record { call = k; tosses = λ node round item. strip_toss es round item; fits = true }

  abbrev pub strip_moves : List ℕ → List (Call R) → List (Move R)
  strip_moves es ks = map (strip_move es) ks

  -- the participant with what calls leave of the instance
  abbrev pub with_world : Held R → World R → Held R
  with_world h w = record { node = h.node; world = w; strip = h.strip }

module _ {R : Type 0} (w : ℕ) (reads : List ℕ → Option R) (h : Held R) where
  -- what octets are read as
  abbrev pub heard_parts : List ℕ → Result Parts Fault
  heard_parts o = read_answer w reads h.world.state.table.n h.world.state.table.m o

  -- the checks of hearing: those of the reader, and then those of the delivery to the participant's node
  abbrev pub hear_refusal : ℕ → Result Parts Fault → Option Refusal
  hear_refusal places (Err f) = Some f.refusal
  hear_refusal places (Ok p) = deliver_refusal w reads h.node p h.world.state places

  -- the calls that a heard message stands for
  abbrev pub heard_calls : Result Parts Fault → List (Call R)
  heard_calls (Err f) = []
  heard_calls (Ok p) = calls_of w reads h.node p
