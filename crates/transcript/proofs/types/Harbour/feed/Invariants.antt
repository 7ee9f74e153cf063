use Rattle.std.proofs.Common.{◌++◌, drop, vec_items}
use Rattle.transcript.specs.Harbours.{fed, HasRoom}
use Rattle.transcript.proofs.HarbourLaws.{Feeds}
use Rattle.transcript.proofs.types.Harbour.feed.Given as goal

abbrev pub invariant-loop-octet : goal.invariant-loop-octet
invariant-loop-octet l =
    Feeds (vec_items l.initial.text ++ (fed l.initial.self l.octets).text) (fed l.initial.self l.octets).after (vec_items l.text) l.self (drop l.octet-index l.octets)
    × HasRoom l.self
