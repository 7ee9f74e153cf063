use Rattle.std.proofs.Common.{rules, arith}
use Rattle.console.proofs.Walked.{next_nth, next_left, index_within}
use Rattle.console.proofs.fields.Walk.next.Goals as goal

pub overflow_add-self : goal.overflow_add-self
overflow_add-self c =
    let within = index_within c.self.inside.line.now _ c.self.inside.index c.in_ok-field.field.now c.self.invariant c.in_ok-field.ensures.field in
    omega (arith, within, c.self.told.1)

pub invariant_of-self-2 : goal.invariant_of-self-2
invariant_of-self-2 c = search (rules, next_left)

pub returns-clause-field : goal.returns-clause-field
returns-clause-field c = search (rules, next_nth)
