use Rattle.std.proofs.Common.{sym}
use Rattle.std.proofs.lemmas.List.FromFn.{length-map-range_with_len}
use Rattle.hearing.specs.Closes.{heard_cell}
use Rattle.hearing.proofs.ear.EarHearing.cell_count.Goals as goal

pub returns : goal.returns
returns g c =
    let e = c.args.self.now in
    sym (length-map-range_with_len (heard_cell e.scene.now.table.now e.scene.now.values.now e.scene.now.sent.now e.scene.now.marks.now e.receiver e.item) 0 e.scene.now.table.now.n)
