use Rattle.std.proofs.Common.{◌++◌, vec_items}
use Rattle.std.specs.Slice.Iter.{chunks_rest}
use Rattle.transcript.specs.Harbours.{fed, HasRoom}
use Rattle.transcript.proofs.HarbourLaws.{Feeds}
use Rattle.transcript.proofs.types.Harbour.feed_parts.Given as goal

abbrev pub invariant-loop-part : goal.invariant-loop-part
invariant-loop-part l =
    goal.iterator-loop-part.can_next l.part-iterator
    × goal.iterator-loop-part.is_finite l.part-iterator
    × Feeds (vec_items l.initial.text ++ (fed l.initial.self l.fn.octets).text) (fed l.initial.self l.fn.octets).after (vec_items l.text) l.self (chunks_rest l.part-iterator)
    × HasRoom l.self
