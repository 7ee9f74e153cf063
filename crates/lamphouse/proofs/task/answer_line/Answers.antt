use Rattle.std.proofs.Common.{◌≡◌, true, cond, not, ◌&&◌, leb, [], length, drop, Some, None, Err, vec_items, sym, ap, ◌∙◌, rules}
use Rattle.std.specs.List.{slice_get}
use Rattle.refusal.specs.declared.Refusal.TheVariants.{StrangeReading}
use Rattle.lines.specs.Fields.{fields}
use Rattle.lamphouse.specs.Grammar.{all_of, cell_of, mark_in, entries_of}
use Rattle.lamphouse.proofs.Enough.{enough_refused, enough_passed}
use Rattle.lamphouse.proofs.HexLaws.{read_ok, read_err, read_why}
use Rattle.lamphouse.proofs.WholeLine.{whole_line}
use Rattle.lamphouse.proofs.task.answer_line.Goals as goal

pub returns-in_err-marks : goal.returns-in_err-marks
returns-in_err-marks g c =
    let fs = fields 32 c.args.line.now in
    let count = c.count_fields.result in
    let turn : c.contains.result ≡ (leb 8 count && leb count 24) = search rules in
    let within : (leb 8 (length fs) && leb (length fs) 24) ≡ true = ap (λ k. leb 8 k && leb k 24) (sym c.count_fields.ensures) ∙ sym turn ∙ c.if-not-contains.false in
    let close = sym c.parse_close.ensures ∙ read_ok c.parse_close.result c.in_ok-close.close StrangeReading c.in_ok-close.ensures.value in
    let f = c.in_ok-entries.entries.now in
    let seventh : slice_get fs 7 ≡ Some f = search rules in
    let entries = read_ok (entries_of f) (vec_items c.in_ok-entries-2.entries) StrangeReading c.in_ok-entries-2.ensures in
    let wanted = c.gives_cells-in_cells.result in
    let heard = read_ok (cond wanted (all_of (cell_of g.R.Reading.reads) (drop 8 fs)) (Some [])) (vec_items c.in_ok-cells.cells) StrangeReading c.in_ok-cells.ensures in
    let marks = cond (not wanted) (all_of mark_in (drop 8 fs)) (Some []) in
    enough_passed c.from_residual-in_err-marks.result c.in_err-marks.field-0.0 _ _ c.from_residual-in_err-marks.ensures.1 c.in_err-marks.ensures (λ e h.
    let none = read_err marks e StrangeReading h in
    ap Err (read_why marks e StrangeReading h)
    ∙ sym (whole_line g.R.Reading.meaning g.R.Reading.reads fs c.in_ok-close.close f (vec_items c.in_ok-entries-2.entries) (vec_items c.in_ok-cells.cells) wanted None
    within c.gives_cells-in_cells.ensures close seventh entries heard none))

pub returns-in_err-close_by_strip : goal.returns-in_err-close_by_strip
returns-in_err-close_by_strip g c =
    let fs = fields 32 c.args.line.now in
    let count = c.count_fields.result in
    let turn : c.contains.result ≡ (leb 8 count && leb count 24) = search rules in
    let within : (leb 8 (length fs) && leb (length fs) 24) ≡ true = ap (λ k. leb 8 k && leb k 24) (sym c.count_fields.ensures) ∙ sym turn ∙ c.if-not-contains.false in
    let close = sym c.parse_close.ensures ∙ read_ok c.parse_close.result c.in_ok-close.close StrangeReading c.in_ok-close.ensures.value in
    let f = c.in_ok-entries.entries.now in
    let seventh : slice_get fs 7 ≡ Some f = search rules in
    let entries = read_ok (entries_of f) (vec_items c.in_ok-entries-2.entries) StrangeReading c.in_ok-entries-2.ensures in
    let wanted = c.gives_cells-in_cells.result in
    let heard = read_ok (cond wanted (all_of (cell_of g.R.Reading.reads) (drop 8 fs)) (Some [])) (vec_items c.in_ok-cells.cells) StrangeReading c.in_ok-cells.ensures in
    let voted = read_ok (cond (not wanted) (all_of mark_in (drop 8 fs)) (Some [])) (vec_items c.in_ok-marks.marks) StrangeReading c.in_ok-marks.ensures in
    let whole = whole_line g.R.Reading.meaning g.R.Reading.reads fs c.in_ok-close.close f c.deref.result.now c.deref-2.result.now wanted (Some c.deref-3.result.now)
    within c.gives_cells-in_cells.ensures close seventh (entries ∙ ap Some (sym c.deref.ensures.value)) (heard ∙ ap Some (sym c.deref-2.ensures.value)) (voted ∙ ap Some (sym c.deref-3.ensures.value)) in
    enough_refused c.from_residual-in_err-close_by_strip.result c.in_err-close_by_strip.field-0.0 _ c.from_residual-in_err-close_by_strip.ensures.1
    (c.in_err-close_by_strip.ensures ∙ sym whole)

pub returns : goal.returns
returns g c =
    let fs = fields 32 c.args.line.now in
    let count = c.count_fields.result in
    let turn : c.contains.result ≡ (leb 8 count && leb count 24) = search rules in
    let within : (leb 8 (length fs) && leb (length fs) 24) ≡ true = ap (λ k. leb 8 k && leb k 24) (sym c.count_fields.ensures) ∙ sym turn ∙ c.if-not-contains.false in
    let close = sym c.parse_close.ensures ∙ read_ok c.parse_close.result c.in_ok-close.close StrangeReading c.in_ok-close.ensures.value in
    let f = c.in_ok-entries.entries.now in
    let seventh : slice_get fs 7 ≡ Some f = search rules in
    let entries = read_ok (entries_of f) (vec_items c.in_ok-entries-2.entries) StrangeReading c.in_ok-entries-2.ensures in
    let wanted = c.gives_cells-in_cells.result in
    let heard = read_ok (cond wanted (all_of (cell_of g.R.Reading.reads) (drop 8 fs)) (Some [])) (vec_items c.in_ok-cells.cells) StrangeReading c.in_ok-cells.ensures in
    let voted = read_ok (cond (not wanted) (all_of mark_in (drop 8 fs)) (Some [])) (vec_items c.in_ok-marks.marks) StrangeReading c.in_ok-marks.ensures in
    let whole = whole_line g.R.Reading.meaning g.R.Reading.reads fs c.in_ok-close.close f c.deref.result.now c.deref-2.result.now wanted (Some c.deref-3.result.now)
    within c.gives_cells-in_cells.ensures close seventh (entries ∙ ap Some (sym c.deref.ensures.value)) (heard ∙ ap Some (sym c.deref-2.ensures.value)) (voted ∙ ap Some (sym c.deref-3.ensures.value)) in
    c.in_ok-close_by_strip.ensures ∙ sym whole
