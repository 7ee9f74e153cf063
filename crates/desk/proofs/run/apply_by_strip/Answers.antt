use Rattle.std.proofs.Common.{ℕ, List, length, subst}
use Rattle.coin.specs.Tosses.{strip_toss, strip_refusal}
use Rattle.play.specs.Moves.{Lent, Made, move_of, world_of}
use Rattle.desk.proofs.Serving.{strip_entries}
use Rattle.desk.proofs.run.apply_by_strip.Goals as goal

pub returns : goal.returns
returns g c =
    let s = c.args.instance.now in
    let b : Lent g.row.R.Denot = record { values = c.args.values.now; scratch = c.args.scratch.now; sent = c.args.sent.now; marks = c.args.marks.now } in
    let b' : Lent g.row.R.Denot = record { values = c.apply_lent.new.values; scratch = c.apply_lent.new.scratch; sent = c.apply_lent.new.sent; marks = c.apply_lent.new.marks } in
    let P : List ℕ → Type 0 = λ es. Made g.R.Reading.meaning (move_of s.table.n s.table.m b (λ node round item. strip_toss es round item) c.args.call.now) (world_of s b) (world_of c.apply_lent.new.instance b') c.apply_lent.result in
    subst P (strip_entries (strip_refusal (length c.args.entries.now)) c.in_ok-strip.strip.entries.now c.args.entries.now c.in_ok-strip.ensures) c.apply_lent.ensures
