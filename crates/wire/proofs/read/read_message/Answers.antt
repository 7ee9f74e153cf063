use Rattle.std.proofs.Common.{◌≡◌, ℕ, ◌+◌, ◌<◌, ◌≤◌, true, length, get_or, drop, Ok, sym, ap, ◌∙◌, arith, rules}
use Rattle.std.proofs.lemmas.List.{take_rest}
use Rattle.std.proofs.lemmas.Result.{err_from_is_err_and}
use Rattle.reading.specs.Octets.{pair_at}
use Rattle.wire.specs.Letters.{takes_step}
use Rattle.wire.specs.Messages.{body_length, parts_of}
use Rattle.wire.specs.Reads.{body_fault, parts_in, unless_fault, read_answer}
use Rattle.wire.proofs.CheckLaws.{unless_ok, unless_err, converted}
use Rattle.wire.proofs.ReadLaws.{passed}
use Rattle.wire.proofs.WholeLaws.{whole_parts}
use Rattle.wire.proofs.read.read_message.Given as given
use Rattle.wire.proofs.read.read_message.Goals as goal
use Rattle.wire.proofs.read.read_message.Goals.{After-check_body}

stepped : (g : given.Over) (c : After-check_body g) → c.from_be_bytes-step.result ≡ pair_at c.args.octets.now 1
stepped g c = search rules

passes : (g : given.Over) (c : After-check_body g)
    → read_answer g.R.Reading.WIDTH g.R.Reading.reads c.args.n c.args.m c.args.octets.now
    ≡ unless_fault (body_fault g.R.Reading.WIDTH g.R.Reading.reads c.in-Ok.letter c.args.m (drop 5 c.args.octets.now))
    (parts_in c.in-Ok.letter c.args.octets.now)
passes g c =
    let o = c.args.octets.now in
    let l = c.in-Ok.letter in
    let long : 5 ≤ length o = search rules in
    let fits : length o ≡ 5 + body_length g.R.Reading.WIDTH l c.args.m = omega (arith, c.count_body.ensures) in
    let t : takes_step l (pair_at o 1) ≡ true = ap (takes_step l) (sym (stepped g c)) ∙ sym c.if-not-takes.ensures in
    passed g.R.Reading.WIDTH g.R.Reading.reads c.args.n c.args.m o l
    (sym c.if-out_of_range.ensures) (sym c.if-out_of_range-2.ensures) long (converted _ _ l c.in-Ok.ensures) c.if-items-m.false
    fits c.if-node-n.false t

pub returns-in_err-check_body : goal.returns-in_err-check_body
returns-in_err-check_body g c =
    let o = c.args.octets.now in
    let l = c.in-Ok.letter in
    let F = body_fault g.R.Reading.WIDTH g.R.Reading.reads l c.args.m in
    let b = ap (λ y. unless_fault (F y) tt) (sym (take_rest o 5)) ∙ sym c.in_err-check_body.ensures in
    let p = passes g (goal.at.returns-in_err-check_body g c).After-check_body ∙ unless_err (F (drop 5 o)) tt (parts_in l o) _ b in
    let r = err_from_is_err_and c.from_residual.result c.from_residual.ensures.1 in
    rw (r.1, r.2) record { answer = sym p; whole = tt }

pub returns : goal.returns
returns g c =
    let o = c.args.octets.now in
    let octet : (i : ℕ) → get_or o i 0 < 256 = λ i. omega (arith, c.type_inv.octets i) in
    let l = c.in-Ok.letter in
    let F = body_fault g.R.Reading.WIDTH g.R.Reading.reads l c.args.m in
    let b = ap (λ y. unless_fault (F y) tt) (sym (take_rest o 5)) ∙ sym c.in_ok-check_body.ensures in
    let s = stepped g (goal.at.returns g c).After-check_body in
    let r = take_rest o 5 in
    let h = c.assemble.ensures ∙ cc (s, r) in
    let a = ap Ok h ∙ sym (passes g (goal.at.returns g c).After-check_body ∙ ap (λ f. unless_fault f (parts_in l o)) (unless_ok (F (drop 5 o)) tt tt b).0) in
    record {
      answer = a;
      whole = (whole_parts g.R.Reading.WIDTH g.R.Reading.octets g.R.Reading.reads g.met.R.Reading.whole
          c.args.n c.args.m o (parts_of c.assemble.result) octet (sym a)).0;
    }
