use Rattle.std.proofs.Common.{◌≡◌, ◌+◌, ◌*◌, ◌^◌, ◌<◌, ◌≤◌, length, sym, refl, ◌∙◌, arith, rules, tests}
use Rattle.lines.proofs.digits.numeral.Goals as goal
use Rattle.lines.proofs.Reading.{below_none, below_more, below_fits, read_more, read_none, read_all, numeral_fits}

pub loop-octet-init : goal.loop-octet-init
loop-octet-init c = (refl, below_none c.args.base)

-- the number after one more digit fits
fits : (c : goal.In_ok-digit) → c.loop-octet.value * c.args.base + c.in_ok-digit.digit < 2 ^ 64
fits c =
    let within : length c.args.field.now ≤ c.args.most = search (rules, tests) in
    below_fits c.args.base c.args.most c.loop-octet.octet-index c.loop-octet.value c.in_ok-digit.digit
    c.requires.based
    c.requires.fits
    (omega arith)
    c.loop-octet.invariant.1
    c.in_ok-digit.ensures.below

pub overflow_mul-value : goal.overflow_mul-value
overflow_mul-value c = omega (arith, fits c)

pub overflow_add-value : goal.overflow_add-value
overflow_add-value c = omega (arith, fits c)

pub loop-octet-preserved : goal.loop-octet-preserved
loop-octet-preserved c = (
  sym (read_more c.args.base c.loop-octet.value c.args.field.now c.loop-octet.octet-index c.in_ok-digit.digit (omega arith) (sym c.in_ok-digit.ensures.value))
      ∙ c.loop-octet.invariant.0,
  below_more c.args.base c.loop-octet.octet-index c.loop-octet.value c.in_ok-digit.digit c.loop-octet.invariant.1 c.in_ok-digit.ensures.below,
)

pub returns-in_err-digit : goal.returns-in_err-digit
returns-in_err-digit c =
    let last = read_none c.args.base c.loop-octet.value c.args.field.now c.loop-octet.octet-index (omega arith) (sym c.in_err-digit.ensures.value) in
    let whole = numeral_fits c.args.base c.args.least c.args.most c.args.field.now (search (rules, tests)) (search (rules, tests)) in
    rw c.from_residual.ensures record { value = sym (whole ∙ sym c.loop-octet.invariant.0 ∙ last); below = tt }

pub returns : goal.returns
returns c =
    let last = read_all c.args.base c.loop-octet.value c.args.field.now c.loop-octet.octet-index (omega arith) in
    let whole = numeral_fits c.args.base c.args.least c.args.most c.args.field.now (search (rules, tests)) (search (rules, tests)) in
    let end : c.loop-octet.octet-index ≡ length c.args.field.now = omega arith in
    record { value = sym (whole ∙ sym c.loop-octet.invariant.0 ∙ last); below = rw end at c.loop-octet.invariant.1 }
