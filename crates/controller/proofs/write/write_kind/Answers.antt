use Rattle.std.proofs.Common.{◌≡◌, ℕ, ◌+◌, ◌*◌, List, length, Some, Result, sym, ap, ◌∙◌}
use Rattle.std.specs.Result.{result_map_both}
use Rattle.refusal.specs.declared.Fault.{Fault}
use Rattle.wire.specs.declared.message.Letter.TheVariants.{OfCells, OfBits}
use Rattle.wire.specs.Items.{cells_fault}
use Rattle.wire.specs.Letters.{letter_of}
use Rattle.wire.specs.Messages.{with_cells, with_bits, cells_in}
use Rattle.wire.proofs.CheckLaws.{converted}
use Rattle.controller.specs.Answers.{after}
use Rattle.controller.specs.Places.{put_front}
use Rattle.controller.specs.Writes.{flags_fault, flag_bits, head_with}
use Rattle.controller.proofs.WriteLaws.{kind_passed, finished}
use Rattle.controller.proofs.write.write_kind.Goals as goal

pub returns-in-OfCells : goal.returns-in-OfCells
returns-in-OfCells g c =
    let w = g.R.Reading.WIDTH in
    let octets = g.R.Reading.octets in
    let reads = g.R.Reading.reads in
    let n = c.args.n in
    let a = c.args.head.now in
    let o = c.args.items.now in
    let place = c.args.place.now in
    let l = c.in-OfCells.letter in
    let k : letter_of a.letter ≡ Some (OfCells l) = converted (letter_of a.letter) _ c.in-Ok.letter c.in-Ok.ensures ∙ ap Some c.in-OfCells.is in
    let p = sym (kind_passed w octets reads n a o place (OfCells l) k (sym c.if-out_of_range.ensures) (sym c.if-out_of_range-2.ensures)) in
    let f =
    finished w octets reads g.met.R.Reading.long g.met.R.Reading.back n a.items place (with_cells (head_with l a) (cells_in w reads o a.items)) c.write_given_cells.result c.write_given_cells.new.place
    (length o) (a.items * (w + 1)) (cells_fault w reads o 0 a.items) c.write_given_cells.ensures.answer c.write_given_cells.ensures.after in
    record {
      answer = f.0 ∙ ap (result_map_both (λ (x : List ℕ). length x) (λ (x : Fault). x)) p;
      after = f.1 ∙ ap (λ (q : Result (List ℕ) Fault). after q put_front place) p;
    }

pub returns-in-OfBits : goal.returns-in-OfBits
returns-in-OfBits g c =
    let w = g.R.Reading.WIDTH in
    let octets = g.R.Reading.octets in
    let reads = g.R.Reading.reads in
    let n = c.args.n in
    let a = c.args.head.now in
    let o = c.args.items.now in
    let place = c.args.place.now in
    let l = c.in-OfBits.letter in
    let k : letter_of a.letter ≡ Some (OfBits l) = converted (letter_of a.letter) _ c.in-Ok.letter c.in-Ok.ensures ∙ ap Some c.in-OfBits.is in
    let p = sym (kind_passed w octets reads n a o place (OfBits l) k (sym c.if-out_of_range.ensures) (sym c.if-out_of_range-2.ensures)) in
    let f =
    finished w octets reads g.met.R.Reading.long g.met.R.Reading.back n a.items place (with_bits (head_with l a) (flag_bits o)) c.write_given_bits.result c.write_given_bits.new.place
    (length o) a.items (flags_fault 0 o) c.write_given_bits.ensures.answer c.write_given_bits.ensures.after in
    record {
      answer = f.0 ∙ ap (result_map_both (λ (x : List ℕ). length x) (λ (x : Fault). x)) p;
      after = f.1 ∙ ap (λ (q : Result (List ℕ) Fault). after q put_front place) p;
    }
