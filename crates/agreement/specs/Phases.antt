-- How an instance goes through its steps.
use Rattle.std.specs.Prelude.{ℕ, ◌+◌, ◌*◌, cond, nat_lt}
use Rattle.closing.specs.declared.types.Phase.{Phase}
use Rattle.closing.specs.declared.types.Phase.TheVariants.{Poll, Echo, ToZero, ToOne, Toss}
use Rattle.agreement.specs.declared.states.Event.{Event}
use Rattle.agreement.specs.declared.states.Event.TheVariants.{Send, Close}
use Rattle.agreement.specs.declared.states.Instance.{Instance}
use Rattle.agreement.specs.Closes.{next_phase}

-- the phase after an event: a close moves it on
abbrev pub phase_on : Phase → Event → Phase
phase_on p Send = p
phase_on p Close = next_phase p

-- the number of the step of a phase in round k
abbrev pub step_in : Phase → ℕ → ℕ
step_in Poll k = 1
step_in Echo k = 2
step_in ToZero k = 3 * k
step_in ToOne k = 3 * k + 1
step_in Toss k = 3 * k + 2

-- the number of the step that an instance is in; after the last it is 303
abbrev pub step_number : Instance → ℕ
step_number s = cond (nat_lt 100 s.round) 303 (step_in s.phase s.round)
