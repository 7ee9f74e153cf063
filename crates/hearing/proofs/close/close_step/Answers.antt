use Rattle.std.proofs.Common.{ℕ, ◌/◌, ◌%◌, ◌++◌, take, drop, ap, ◌∙◌}
use Rattle.hearing.specs.Closes.{value_after}
use Rattle.board.specs.Tables.{cells_needed}
use Rattle.hearing.proofs.Parts.{copied, room_of}
use Rattle.hearing.proofs.close.close_step.Goals as goal

pub returns-clause-values : goal.returns-clause-values
returns-clause-values g c =
    let t = c.args.table.now in
    let values = c.args.values.now in
    let scratch = c.args.scratch.now in
    let sent = c.args.sent.now in
    let marks = c.args.marks.now in
    let f = λ (k : ℕ). value_after g.R.Reading.meaning (g.C.Coin.tosses c.args.coin.now) t c.args.step.now values sent marks (k / t.m) (k % t.m) in
    let room = room_of t values scratch sent marks c.requires in
    let after = c.write_values.new.scratch in
    ap (λ ys. ys ++ drop c.cells_needed-cells.result values) c.copy_from_slice.ensures.after
    ∙ ap (λ n. take n after ++ drop n values) c.cells_needed-cells.ensures
    ∙ copied (cells_needed t) f scratch after values room.1 room.0 c.write_values.ensures
