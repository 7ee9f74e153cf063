use Rattle.std.proofs.Common.{rules}
use Rattle.play.proofs.Counts.{count_refused}
use Rattle.play.proofs.apply.apply_undecided.Goals as goal

pub returns-in_err-undecided : goal.returns-in_err-undecided
returns-in_err-undecided g c =
    let q = count_refused {R = g.row.R.Denot} c.args.instance.now.table _ c.args.places c.undecided.result c.in_err-undecided.field-0.0 (search rules) c.undecided.ensures.answer c.in_err-undecided.was in
    let d = c.from_residual.ensures in search rules
