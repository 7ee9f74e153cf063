use Rattle.std.proofs.Common.{◌≡◌, ◌+◌, ◌<◌, ◌++◌, length, drop, replicate, Ok, Err, ap, ◌∙◌, length-set, arith}
use Rattle.std.proofs.lemmas.Result.{err_from_is_err_and}
use Rattle.console.specs.Grammar.{entry_at}
use Rattle.console.specs.Spots.{Spot, passed}
use Rattle.console.proofs.Entries.{entries_more, entries_none}
use Rattle.console.proofs.fields.Walk.entries.Goals as goal

pub returns-in_err-entry : goal.returns-in_err-entry
returns-in_err-entry c =
    let fs = c.args.self.now.fields in
    let k = c.loop-entry.entry-index in
    let d = c.in_err-entry.field-0.0 in
    let p = err_from_is_err_and {Q = λ y. y ≡ d} c.from_residual.result c.from_residual.ensures.1 in
    let here : Err d ≡ entry_at fs (k + 1) = c.in_err-entry.ensures.value ∙ ap (λ (s : Spot). entry_at s.fields s.index) c.loop-entry.invariant.2 in
    let less : k < c.args.count = omega (arith, c.loop-entry-test.true, c.loop-entry.invariant.0) in
    let none = entries_none fs (c.loop-entry.entry-items ++ drop c.args.count (replicate 8 0)) k c.args.count d less c.loop-entry.invariant.1 here in
    rw (p.1, p.2, none)

pub loop-entry-preserved : goal.loop-entry-preserved
loop-entry-preserved c =
    let fs = c.args.self.now.fields in
    let es = c.loop-entry.entry-items in
    let k = c.loop-entry.entry-index in
    let e = c.in_ok-entry.field-0 in
    let here : Ok e ≡ entry_at fs (k + 1) = c.in_ok-entry.ensures.value ∙ ap (λ (s : Spot). entry_at s.fields s.index) c.loop-entry.invariant.2 in
    let within : k < length es = omega (arith, c.loop-entry-test.true, c.loop-entry.invariant.0) in (
      length-set es k e ∙ c.loop-entry.invariant.0,
      entries_more fs es (drop c.args.count (replicate 8 0)) k e within c.loop-entry.invariant.1 here,
      c.in_ok-entry.ensures.walk ∙ ap passed c.loop-entry.invariant.2,
    )
