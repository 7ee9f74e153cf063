use Rattle.std.proofs.Common.{◌≡◌, length, take, Some, None, sym, ap, ◌∙◌, inl, inr, arith, rules, tests}
use Rattle.std.specs.Option.{option_map}
use Rattle.std.proofs.lemmas.List.{length-take-le, take-append-drop}
use Rattle.lines.specs.Digits.{hex_octets_of, written}
use Rattle.lines.proofs.Pairs.{pairs_more, kept_more, unfit_octets, no_octets, some_at, all_pairs}
use Rattle.lines.proofs.hex.hex_octets.Goals as goal
use Rattle.lines.proofs.hex.hex_octets.Goals.{Joined-then-is_empty, then-is_empty-via-then-is_empty, then-is_empty-via-else-is_empty+then-pairs-out, then-is_empty-via-else-is_empty+else-pairs-out+then-not-is_octets}

-- where nothing is written
none : (c : Joined-then-is_empty) → hex_octets_of (length c.args.out.now) c.args.field.now ≡ None
none c =
    let bs = c.args.field.now in
    let places = length c.args.out.now in
    elim c.then-is_empty.branch [
      | then-is_empty-via-then-is_empty w ↦ unfit_octets bs places (inl (search (rules, tests)))
      | then-is_empty-via-else-is_empty+then-pairs-out w ↦ unfit_octets bs places (inr (omega arith))
      | then-is_empty-via-else-is_empty+else-pairs-out+then-not-is_octets w ↦ no_octets bs places (search (rules, tests))
    ]

pub returns-then-is_empty-clause-count : goal.returns-then-is_empty-clause-count
returns-then-is_empty-clause-count c = ap (option_map (λ os. length os)) (sym (none c))

pub returns-then-is_empty-clause-places : goal.returns-then-is_empty-clause-places
returns-then-is_empty-clause-places c = ap (λ o. written o c.args.out.now) (sym (none c))

pub returns-in_err-out-clause-count : goal.returns-in_err-out-clause-count
returns-in_err-out-clause-count c = absurd (some_at c.args.field.now c.as_chunks.result.0.now c.loop-place.place _ c.as_chunks.ensures.front (search (rules, tests)) (omega arith) c.in_err-out.ensures)

pub returns-in_err-out-clause-places : goal.returns-in_err-out-clause-places
returns-in_err-out-clause-places c = absurd (some_at c.args.field.now c.as_chunks.result.0.now c.loop-place.place _ c.as_chunks.ensures.front (search (rules, tests)) (omega arith) c.in_err-out.ensures)

pub loop-place-preserved : goal.loop-place-preserved
loop-place-preserved c =
    let ps = c.as_chunks.result.0.now in
    let i = c.loop-place.place in
    let o = c.in_ok-out.field-0 in (
      pairs_more ps c.loop-place.out i o _ (omega arith) (omega arith) c.loop-place.invariant.0 c.in_ok-out.ensures,
      kept_more c.loop-place.out c.args.out.now i o c.loop-place.invariant.1,
      search rules,
    )

-- the octets that are written at the end
whole : (c : goal.After-loop-place) → hex_octets_of (length c.args.out.now) c.args.field.now ≡ Some (take c.loop-place.place c.loop-place.out)
whole c =
    all_pairs c.args.field.now c.as_chunks.result.0.now c.loop-place.out c.loop-place.place (length c.args.out.now) c.as_chunks.ensures.front c.as_chunks.ensures.front_len
    (search (rules, tests))
    (search (rules, tests))
    (omega arith)
    (omega arith)
    c.loop-place.invariant.0

written_long : (c : goal.After-loop-place) → length (take c.loop-place.place c.loop-place.out) ≡ length c.as_chunks.result.0.now
written_long c = length-take-le c.loop-place.place c.loop-place.out (omega arith) ∙ omega arith

pub returns-clause-count : goal.returns-clause-count
returns-clause-count c = ap Some (sym (written_long c)) ∙ ap (option_map (λ os. length os)) (sym (whole c))

pub returns-clause-places : goal.returns-clause-places
returns-clause-places c =
    let i = c.loop-place.place in
    let out = c.loop-place.out in
    let long : length (take i out) ≡ i = length-take-le i out (omega arith) in
    rw (whole c, long, ← c.loop-place.invariant.1) (sym (take-append-drop i out))
