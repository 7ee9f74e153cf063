use Rattle.std.proofs.Common.{◌≡◌, ◌<◌, [], ◌∷◌, ◌++◌, map, length, sym, ap, ◌∙◌, arith, rules}
use Rattle.std.specs.List.{range_with_len}
use Rattle.std.proofs.lemmas.List.FromFn.{map-range_with_len_more}
use Rattle.std.proofs.lemmas.List.{take_more_set}
use Rattle.controller.specs.Strips.{entry_at}
use Rattle.controller.proofs.strips.read_entries.Goals as goal

pub loop-i-preserved : goal.loop-i-preserved
loop-i-preserved c =
    let i = c.loop-i.i in
    let o = c.args.octets.now in
    let l : i < length c.loop-i.entries = omega (arith, c.loop-i.auto.entries) in
    let v : c.from_be_bytes.result ≡ entry_at o i = search rules in
    take_more_set c.loop-i.entries i c.from_be_bytes.result l
    ∙ ap (λ ys. ys ++ c.from_be_bytes.result ∷ []) c.loop-i.invariant
    ∙ ap (λ x. map (entry_at o) (range_with_len 0 i) ++ x ∷ []) v
    ∙ sym (map-range_with_len_more (entry_at o) 0 i i (omega arith))
