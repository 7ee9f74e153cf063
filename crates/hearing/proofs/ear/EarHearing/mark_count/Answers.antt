use Rattle.std.proofs.Common.{sym}
use Rattle.std.proofs.lemmas.List.FromFn.{length-map-range_with_len}
use Rattle.hearing.specs.Closes.{heard_mark}
use Rattle.hearing.proofs.ear.EarHearing.mark_count.Goals as goal

pub returns : goal.returns
returns g c =
    let e = c.args.self.now in
    sym (length-map-range_with_len (heard_mark e.scene.now.table.now e.scene.now.marks.now e.receiver e.item) 0 e.scene.now.table.now.n)
