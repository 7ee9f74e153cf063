use Rattle.std.proofs.Common.{◌≡◌, ◌+◌, ◌*◌, ◌≤◌, ◌++◌, length, drop, sym, refl, ap, ◌∙◌, arith}
use Rattle.std.specs.List.{flat_map}
use Rattle.wire.specs.Items.{cell_octets}
use Rattle.wire.specs.Messages.{cells_head, head_octets}
use Rattle.wire.specs.Writes.{room_check, write_answer}
use Rattle.wire.proofs.WriteLaws.{head_passed, room_passed, laid}
use Rattle.wire.proofs.write.write_cells.Goals as goal

pub returns : goal.returns
returns g c =
    let h = c.with_letter-head.result in
    let q : h ≡ cells_head c.args.head = c.with_letter-head.ensures in
    let m = c.args.m in
    let out = c.args.out.now in
    let long = c.in_ok-long.long in
    let given = length c.args.cells.now in
    let count : given ≡ m = c.in_ok-check_head.ensures.small.1 in
    let room = c.in_ok-long.ensures.answer in
    let size = room_passed long (5 + m * c.stride.result) (length out) room in
    let five : 5 ≤ long = omega arith in
    let front = c.in_ok-long.ensures.after ∙ ap (λ k. head_octets h k ++ drop 5 out) (sym count) in
    record {
      answer =
          room
          ∙ ap (λ s. room_check (5 + m * s) (length out)) c.stride.ensures
          ∙ sym (head_passed h c.args.n m given tt _ (sym c.in_ok-check_head.ensures.answer))
          ∙ ap (λ x. write_answer x c.args.n m given (m * (g.R.Reading.WIDTH + 1)) (length out)) q;
      after =
          laid out c.write_head.new.out (head_octets h given) c.write_cell_octets.new.out long front refl five
          ∙ ap (λ b. (head_octets h given ++ b) ++ drop long out) c.write_cell_octets.ensures
          ∙ ap (λ x. (head_octets x given ++ flat_map (cell_octets g.R.Reading.WIDTH g.R.Reading.octets) c.args.cells.now) ++ drop long out) q;
    }
