use Rattle.std.proofs.Common.{◌≡◌, ◌+◌, ◌-◌, ◌/◌, ◌%◌, min, List, length, take, None, Ok, Option, sym, ap, ◌∙◌, rules}
use Rattle.std.specs.Result.{result_map_both}
use Rattle.std.proofs.lemmas.Result.{err_from_is_err_and}
use Rattle.std.proofs.lemmas.List.FromFn.{length-map-range_with_len}
use Rattle.refusal.specs.declared.Refusal.TheVariants.{StrangeReading}
use Rattle.refusal.specs.Refusals.{unless}
use Rattle.coin.specs.Tosses.{strip_refusal}
use Rattle.closing.specs.declared.types.ItemClose.{ItemClose}
use Rattle.closing.specs.Closings.{item_answer}
use Rattle.wire.specs.Items.{cells_fault}
use Rattle.wire.specs.Messages.{cells_in}
use Rattle.wire.specs.Reads.{unless_fault}
use Rattle.controller.specs.Closes.{asked}
use Rattle.controller.specs.Strips.{tosses_in}
use Rattle.controller.proofs.PlaceLaws.{laid_front}
use Rattle.controller.proofs.CloseLaws.{whole_rows, sixteen_suffice, well_formed, strange_cells, strange_ok, strange_err, when_ok}
use Rattle.controller.proofs.close.close_given.Goals as goal

pub read_cells-requires : goal.read_cells-requires
read_cells-requires g c =
    whole_rows (length c.args.octets.now) c.stride-stride.result g.R.Reading.WIDTH c.stride-stride.ensures c.if-octets-stride-ne0.false

pub returns-in_err-map_err : goal.returns-in_err-map_err
returns-in_err-map_err g c =
    let w = g.R.Reading.WIDTH in
    let reads = g.R.Reading.reads in
    let o = c.args.octets.now in
    let s = c.stride-stride.ensures in
    let F = cells_fault w reads o 0 (length o / c.stride-stride.result) in
    let whole : length o % (w + 1) ≡ 0 = ap (λ n. length o % n) (sym s) ∙ c.if-octets-stride-ne0.false in
    let q : c.map_err.result ≡ result_map_both (λ x. x) (λ _. StrangeReading) c.read_cells.result = search rules in
    let t = strange_err F tt c.in_err-map_err.field-0.0 (sym c.in_err-map_err.was ∙ q ∙ ap (result_map_both (λ x. x) (λ _. StrangeReading)) c.read_cells.ensures.answer) in
    let some = t.1 in
    let e = ap (λ n. cells_fault w reads o 0 (length o / n)) s in
    let r = err_from_is_err_and c.from_residual.result c.from_residual.ensures.1 in
    rw (r.1, r.2, t.0)
    (strange_cells w g.R.Reading.meaning reads c.args.request.now c.args.strip.now o c.args.marks.now
    c.if-strip-eq1.false whole c.if-request-gt1.false (rw e at some))

pub returns : goal.returns
returns g c =
    let w = g.R.Reading.WIDTH in
    let reads = g.R.Reading.reads in
    let o = c.args.octets.now in
    let s = c.stride-stride.ensures in
    let k = length o / c.stride-stride.result in
    let strip = c.args.strip.now in
    let whole : length o % (w + 1) ≡ 0 = ap (λ n. length o % n) (sym s) ∙ c.if-octets-stride-ne0.false in
    let q : c.map_err.result ≡ result_map_both (λ x. x) (λ _. StrangeReading) c.read_cells.result = search rules in
    let none : cells_fault w reads o 0 k ≡ None =
    strange_ok (cells_fault w reads o 0 k) tt tt (sym c.in_ok-map_err.was ∙ q ∙ ap (result_map_both (λ x. x) (λ _. StrangeReading)) c.read_cells.ensures.answer) in
    let ok : c.read_cells.result ≡ Ok tt = c.read_cells.ensures.answer ∙ ap (λ f. unless_fault f tt) none in
    let long : length (cells_in w reads o k) ≡ k = length-map-range_with_len _ 0 k in
    let size : c.min.result ≡ min (length (cells_in w reads o k)) 16 = c.min.ensures ∙ ap (λ n. min n 16) (sym long) in
    let answer = λ (a : ItemClose) (cells : List (Option _)).
    unless (strip_refusal (length strip / 2)) (item_answer g.R.Reading.meaning (tosses_in strip) a cells c.args.marks.now) in
    let cells : take (c.min.result - 0) c.read_cells.new.cells ≡ take 16 (cells_in w reads o k) =
    ap (take (c.min.result - 0)) (when_ok c.read_cells.result tt ok c.read_cells.ensures.after) ∙ laid_front (cells_in w reads o k) c.args.cells.now 16 c.min.result c.requires size in
    c.close_by_octets.ensures
    ∙ ap (λ (a : ItemClose). answer a (take (c.min.result - 0) c.read_cells.new.cells)) c.from.ensures
    ∙ ap (λ (cs : List (Option _)). answer (asked c.args.request.now) cs) cells
    ∙ ap (unless (strip_refusal (length strip / 2)))
    (sixteen_suffice g.R.Reading.meaning (tosses_in strip) (asked c.args.request.now) (cells_in w reads o k) c.args.marks.now)
    ∙ ap (λ n. answer (asked c.args.request.now) (cells_in w reads o (length o / n))) s
    ∙ sym (well_formed w g.R.Reading.meaning reads c.args.request.now strip o c.args.marks.now c.if-strip-eq1.false whole c.if-request-gt1.false
    (ap (λ n. cells_fault w reads o 0 (length o / n)) (sym s) ∙ none))
