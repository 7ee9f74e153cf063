use Rattle.std.proofs.Common.{replicate, Ok, ap, ◌∙◌}
use Rattle.relay.specs.Own.{own_octets, own_refusal}
use Rattle.lamphouse.proofs.RunLaws.{placed_front}
use Rattle.lamphouse.proofs.heard.own_octets.Goals as goal

pub returns : goal.returns
returns g c =
    let s = c.args.participant.now in
    let w = g.R.Reading.WIDTH in
    let octets = g.R.Reading.octets in
    let values = s.world.values in
    let told = c.in_ok-count.ensures in
    ap Ok c.in_ok-from_slice.ensures.items
    ∙ placed_front (own_refusal w octets s.world.state values s.node (replicate 149 0)) (own_octets w octets s.world.state values s.node) (replicate 149 0)
    c.message.new.place c.in_ok-count.count told.answer told.place
