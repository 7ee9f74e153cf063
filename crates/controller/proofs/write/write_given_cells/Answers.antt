use Rattle.std.proofs.Common.{◌≡◌, ◌+◌, ◌-◌, ◌*◌, List, length, take, None, Option, sym, ap, ◌∙◌}
use Rattle.std.proofs.lemmas.List.FromFn.{length-map-range_with_len}
use Rattle.wire.specs.declared.message.CellLetter.{CellLetter}
use Rattle.wire.specs.declared.message.Head.{Head}
use Rattle.wire.specs.Items.{cells_fault}
use Rattle.wire.specs.Messages.{cells_head, cells_message, cells_in}
use Rattle.wire.specs.Writes.{write_answer, written}
use Rattle.wire.proofs.CheckLaws.{unless_ok}
use Rattle.controller.specs.Writes.{head_with}
use Rattle.controller.proofs.WriteLaws.{items_passed, front_all}
use Rattle.controller.proofs.write.write_given_cells.Goals as goal

pub returns : goal.returns
returns g c =
    let w = g.R.Reading.WIDTH in
    let octets = g.R.Reading.octets in
    let reads = g.R.Reading.reads in
    let m = c.args.head.now.items in
    let o = c.args.items.now in
    let place = c.args.place.now in
    let xs = cells_in w reads o m in
    let given = take (m - 0) c.read_cells.new.cells in
    let head : Head CellLetter = head_with c.args.letter c.args.head.now in
    let none : cells_fault w reads o 0 m ≡ None = (unless_ok (cells_fault w reads o 0 m) tt c.in_ok-read_cells.field-0 (sym c.in_ok-read_cells.ensures.answer)).0 in
    let whole : length o ≡ m * (w + 1) = c.if-items-m.false ∙ ap (λ n. m * n) c.stride.ensures in
    let cells : given ≡ xs =
    ap (take (m - 0)) c.in_ok-read_cells.ensures.after ∙ front_all xs c.args.cells.now m c.requires.space (length-map-range_with_len _ 0 m) c.requires.few in
    let h : c.head_with.result ≡ head = c.head_with.ensures in
    let answer = λ (x : Head CellLetter) (cs : List (Option _)). write_answer (cells_head x) c.args.n m (length cs) (m * (w + 1)) (length place) in
    let left = λ (x : Head CellLetter) (cs : List (Option _)). written c.write_cells.result (cells_message w octets x cs) place in
    record {
      answer =
          c.write_cells.ensures.answer
          ∙ ap (λ (x : Head CellLetter). answer x given) h
          ∙ ap (λ (cs : List (Option _)). answer head cs) cells
          ∙ items_passed (length o) (m * (w + 1)) (cells_fault w reads o 0 m) (answer head xs) whole none;
      after =
          c.write_cells.ensures.after
          ∙ ap (λ (x : Head CellLetter). left x given) h
          ∙ ap (λ (cs : List (Option _)). left head cs) cells;
    }
