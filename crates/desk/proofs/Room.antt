-- What stands in a desk's type of its boards and its strip.
use Rattle.std.proofs.Common.{sym, ◌∙◌, arith}
use Rattle.std.proofs.lemmas.List.{length-take-le}
use Rattle.desk.specs.Views.{view_of, IsDesk, HasRoom}
use Rattle.desk.specs.declared.stage.Desk.TheInside.{Inside}

pub has_room : {R : Type 0} (d : Inside R) → IsDesk d → HasRoom (view_of d)
has_room d i =
    let strip = length-take-le d.count d.entries (omega (arith, i.1, i.2)) in
    record {
      values = sym d.boards.values.ok.0 ∙ d.boards.cells.0;
      sent = sym d.boards.sent.ok.0 ∙ d.boards.pairs.0;
      marks = sym d.boards.marks.ok.0 ∙ d.boards.pairs.1;
      some = omega (arith, i.0, strip);
      few = omega (arith, i.1, strip);
    }
