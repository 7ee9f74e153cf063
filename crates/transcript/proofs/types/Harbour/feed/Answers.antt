use Rattle.std.proofs.Common.{vec_items, arith}
use Rattle.transcript.proofs.HarbourLaws.{feeds_more, feeds_all}
use Rattle.transcript.proofs.types.Harbour.feed.Goals as goal

pub loop-octet-preserved : goal.loop-octet-preserved
loop-octet-preserved c =
    let said = c.in_ok-take.ensures.answers in (
      feeds_more _ _ (vec_items c.loop-octet.text) (vec_items c.take.new.text) c.loop-octet.self c.take.new.self c.args.octets.now c.loop-octet.octet-index
          (omega arith) said.0 said.1 c.loop-octet.invariant.0,
      c.in_ok-take.ensures.room,
    )

pub returns : goal.returns
returns c = record {
  answers = feeds_all _ _ (vec_items c.loop-octet.text) c.loop-octet.self c.args.octets.now c.loop-octet.octet-index (omega arith) c.loop-octet.invariant.0;
  room = c.loop-octet.invariant.1;
}
