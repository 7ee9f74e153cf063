use Rattle.std.proofs.Common.{◌<◌, true, false, length, Some, None, sym, refl, ap, ◌∙◌, arith}
use Rattle.std.proofs.lemmas.List.{take_all}
use Rattle.closing.specs.Counting.{means, backers}
use Rattle.closing.proofs.Scans.{count_more}
use Rattle.closing.proofs.counting.count_backers.Goals as goal
use Rattle.closing.proofs.counting.count_backers.Goals.{in-Some+then-same, in-Some+else-same, in_default}

pub loop-node-preserved : goal.loop-node-preserved
loop-node-preserved g c =
    let meaning = g.R.Reading.meaning in
    let v = meaning c.args.sought.now in
    let xs = g.H.Hearing.cells c.args.heard.now in
    let i = c.loop-node.node in
    let h : i < length xs = omega arith in
    elim c.match-cell.branch [
      | in-Some+then-same w ↦
          (let s = count_more (means meaning v) xs i (Some w.in-Some.r) None true h w.in-Some.ensures (sym w.if-same.ensures) in
          (omega (arith, w.count-is, s), omega (arith, w.count-is)))
      | in-Some+else-same w ↦
          (let s = count_more (means meaning v) xs i (Some w.in-Some.r) None false h w.in-Some.ensures (sym w.if-same.ensures) in
          (omega (arith, w.count-is, s), omega (arith, w.count-is)))
      | in_default w ↦
          (let s = count_more (means meaning v) xs i None None false h w.in_default.ensures refl in
          (omega (arith, w.count-is, s), omega (arith, w.count-is)))
    ]

pub returns : goal.returns
returns g c =
    let meaning = g.R.Reading.meaning in
    c.loop-node.invariant.0
    ∙ ap (backers meaning (meaning c.args.sought.now)) (take_all c.loop-node.node (g.H.Hearing.cells c.args.heard.now) (omega arith))
