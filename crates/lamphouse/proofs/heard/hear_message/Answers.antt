use Rattle.std.proofs.Common.{◌≡◌, ℕ, map, length, take, Ok, Err, vec_items, sym, ap, ◌∙◌, subst, arith}
use Rattle.std.proofs.lemmas.List.{take_at, length-take-le}
use Rattle.lamphouse.specs.Runs.{answer_number, HeardSo}
use Rattle.lamphouse.proofs.Enough.{enough_refused}
use Rattle.lamphouse.proofs.RunLaws.{count_within, heard_accepted, heard_refused}
use Rattle.lamphouse.proofs.heard.hear_message.Goals as goal

pub slice_bounds-answer_numbers-end : goal.slice_bounds-answer_numbers-end
slice_bounds-answer_numbers-end g c =
    let told = c.in_ok-count.ensures in
    let within = count_within g.R.Reading.meaning g.R.Reading.WIDTH g.R.Reading.reads c.args.participant.now c.hear.new.self c.args.octets.now
    c.deref_mut.result.now c.hear.new.answers c.in_ok-count.count told.answer told.answers in
    sym (length-take-le c.in_ok-count.count c.deref.result.now (omega (arith, within, c.hear.auto.answers, c.deref_mut.ensures.len, c.deref.ensures.len)))

pub returns-in_err-count : goal.returns-in_err-count
returns-in_err-count g c =
    let e = c.in_err-count.field-0.0 in
    let told = c.in_err-count.ensures in
    let places : length c.deref_mut.result.now ≡ 17 = omega (arith, c.deref_mut.ensures.len, c.in_ok-answers.ensures.len) in
    enough_refused c.from_residual-in_err-count.result e _ c.from_residual-in_err-count.ensures.1
    (subst (λ (k : ℕ). HeardSo g.R.Reading.meaning g.R.Reading.WIDTH g.R.Reading.reads k c.args.participant.now c.hear.new.self c.args.octets.now (Err e)) places
    (heard_refused g.R.Reading.meaning g.R.Reading.WIDTH g.R.Reading.reads c.args.participant.now c.hear.new.self c.args.octets.now
    c.deref_mut.result.now c.hear.new.answers e told.answer told.held))

pub returns : goal.returns
returns g c =
    let told = c.in_ok-count.ensures in
    let count = c.in_ok-count.count in
    let answers = c.hear.new.answers in
    let numbers = vec_items c.in_ok-answer_numbers.field-0 in
    let long : length answers ≡ c.in_ok-answers.answers.len = omega (arith, c.hear.auto.answers, c.deref_mut.ensures.len) in
    let places : length c.deref_mut.result.now ≡ 17 = omega (arith, c.deref_mut.ensures.len, c.in_ok-answers.ensures.len) in
    subst (λ (k : ℕ). HeardSo g.R.Reading.meaning g.R.Reading.WIDTH g.R.Reading.reads k c.args.participant.now c.hear.new.self c.args.octets.now (Ok numbers)) places
    (heard_accepted g.R.Reading.meaning g.R.Reading.WIDTH g.R.Reading.reads c.args.participant.now c.hear.new.self c.args.octets.now
    c.deref_mut.result.now answers count numbers told.answer told.held told.answers
    (c.in_ok-answer_numbers.ensures ∙ ap (λ xs. map answer_number (take count xs)) (c.deref.ensures.value ∙ take_at answers _ _ long)))
