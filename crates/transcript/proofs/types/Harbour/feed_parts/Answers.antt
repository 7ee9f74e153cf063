use Rattle.std.proofs.Common.{vec_items, arith, rules}
use Rattle.std.specs.Slice.Iter.{chunks_rest}
use Rattle.transcript.proofs.HarbourLaws.{feeds_part, feeds_all}
use Rattle.transcript.proofs.types.Harbour.feed_parts.Goals as goal

pub loop-part-preserved : goal.loop-part-preserved
loop-part-preserved c =
    let said = c.in_ok-feed.ensures.answers in (
      search rules,
      tt,
      feeds_part _ _ (vec_items c.loop-part.text) (vec_items c.feed.new.text) c.loop-part.self c.feed.new.self (chunks_rest c.loop-part.part-iterator) c.in-Some.part.now (chunks_rest c.next.new.self)
          c.in-Some.ensures.steps.1.0 said.0 said.1 c.loop-part.invariant.2,
      c.in_ok-feed.ensures.room,
    )

pub returns : goal.returns
returns c = record {
  answers = feeds_all _ _ (vec_items c.loop-part.text) c.loop-part.self (chunks_rest c.loop-part.part-iterator) 0 (omega (arith, c.in-None.ensures.steps.1.0)) c.loop-part.invariant.2;
  room = c.loop-part.invariant.3;
}
