use Rattle.std.proofs.Common.{◌≡◌, is_some, length, sym, ap, ◌∙◌, arith, rules, tests}
use Rattle.std.specs.List.{list_all}
use Rattle.std.proofs.lemmas.Bool.{eqb-true, eqb-false}
use Rattle.std.proofs.lemmas.Iterator.{YieldsList-from_slice}
use Rattle.std.proofs.lemmas.Iterator.Search.{all_from_yields_List}
use Rattle.lines.proofs.Pairs.{pair_octet, pairs_of, by_pairs, no_pairs, each_some}
use Rattle.lines.proofs.hex.is_octets.Goals as goal

pub returns-then-is_empty : goal.returns-then-is_empty
returns-then-is_empty c =
    let bs = c.args.field.now in
    let none : length c.as_chunks.result.1.now ≡ 0 = eqb-true _ 0 (sym c.if-is_empty.ensures) in
    let each : c.all.result ≡ list_all (λ p. is_some (pair_octet p)) (pairs_of bs) = all_from_yields_List (λ p. is_some (pair_octet p)) _ _ c.all.result c.all.ensures.ran (YieldsList-from_slice (pairs_of bs) (c.iter.ensures.rest ∙ c.as_chunks.ensures.front)) (λ x b q k. search (rules, tests)) in
    each ∙ sym (each_some (pairs_of bs)) ∙ ap is_some (sym (by_pairs bs (omega arith)))

pub returns-else-is_empty : goal.returns-else-is_empty
returns-else-is_empty c =
    let some = eqb-false (length c.as_chunks.result.1.now) 0 (sym c.if-is_empty.ensures) in
    c.if-is_empty.false ∙ sym (ap is_some (no_pairs c.args.field.now (λ e. some (omega (arith, e)))))
