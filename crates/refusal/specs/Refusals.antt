-- The table of refusals: the number and the word of each.
use Rattle.std.specs.Prelude.{◌≡◌, ℕ, Bool, true, false, cond, List, [], ◌∷◌, Some, None, Ok, Err, codes, Option, Result, ◌==◌}
use Rattle.std.specs.Option.{ok_or}
use Rattle.refusal.specs.declared.Layer.{Layer}
use Rattle.refusal.specs.declared.Layer.TheVariants as layer
use Rattle.refusal.specs.declared.NoRefusal.{NoRefusal}
use Rattle.refusal.specs.declared.Refusal.{Refusal}
use Rattle.refusal.specs.declared.Refusal.TheVariants.{BadSize, Short, NoNode, NoItem, HonestSender, FaultyNode, WrongPhase, Repeated, Over, Torn, StrangeLetter, StrangeReading, OutOfTurn}

-- the number of a refusal
abbrev pub number : Refusal → ℕ
number BadSize = 1
number Short = 2
number NoNode = 3
number NoItem = 4
number HonestSender = 5
number FaultyNode = 6
number WrongPhase = 7
number Repeated = 8
number Over = 9
number Torn = 10
number StrangeLetter = 11
number StrangeReading = 12
number OutOfTurn = 13

-- all refusals
abbrev pub refusals : List Refusal
refusals =
    BadSize ∷ Short ∷ NoNode ∷ NoItem ∷ HonestSender ∷ FaultyNode ∷ WrongPhase ∷ Repeated ∷ Over ∷ Torn ∷ StrangeLetter
    ∷ StrangeReading ∷ OutOfTurn ∷ []

-- the one of some refusals that has the number k, if there is one
abbrev pub numbered : ℕ → List Refusal → Option Refusal
numbered k [] = None
numbered k (e ∷ es) = cond (k == number e) (Some e) (numbered k es)

-- the refusal with the number k, if there is one
abbrev pub refusal_of : ℕ → Option Refusal
refusal_of k = numbered k refusals

-- the result is the refusal with the number k, or says that there is none
abbrev pub Numbered : ℕ → Result Refusal NoRefusal → Type 0
Numbered k r = r ≡ ok_or (refusal_of k) (record {})

-- the number of a layer
abbrev pub layer_number : Layer → ℕ
layer_number layer.Kind = 1
layer_number layer.Message = 2
layer_number layer.Line = 3

-- the word of a refusal, as ASCII
abbrev pub word : Refusal → List ℕ
word BadSize = codes "no roll"
word Short = codes "short"
word NoNode = codes "no seat"
word NoItem = codes "no item"
word HonestSender = codes "sound sender"
word FaultyNode = codes "stray seat"
word WrongPhase = codes "wrong side"
word Repeated = codes "said already"
word Over = codes "over"
word Torn = codes "torn"
word StrangeLetter = codes "strange letter"
word StrangeReading = codes "strange reading"
word OutOfTurn = codes "out of turn"

-- what a call answers whose checks may refuse it: the refusal, or else r
abbrev pub unless : {X : Type 0} → Option Refusal → Result X Refusal → Result X Refusal
unless None r = r
unless (Some e) r = Err e

-- what a call answers: its result where nothing refuses it, else the refusal
abbrev pub answered : {X : Type 0} → Option Refusal → X → Result X Refusal
answered e x = unless e (Ok x)

-- one check of a chain: e where the test hits, else what the later checks say
abbrev pub refuse : Bool → Refusal → Option Refusal → Option Refusal
refuse true e later = Some e
refuse false e later = later
