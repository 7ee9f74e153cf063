use Rattle.wire.specs.Messages.{parts_of}
use Rattle.relay.specs.Deliveries.{calls_of}
use Rattle.relay.proofs.Deliveries.{SentSoFar}
use Rattle.relay.proofs.incoming.send_all.Given as goal

-- the calls before this place were made
abbrev pub invariant-loop-place : goal.invariant-loop-place
invariant-loop-place g l =
    SentSoFar g.R.Reading.meaning (calls_of g.R.Reading.WIDTH g.R.Reading.reads l.receiver (parts_of l.message)) l.initial.used
    l.initial.instance l.initial.sent l.initial.marks l.instance l.sent l.marks l.place l.used
