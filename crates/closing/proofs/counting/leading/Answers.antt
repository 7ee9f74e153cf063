use Rattle.std.proofs.Common.{◌<◌, length, Some, None, sym, refl, ◌∙◌, arith}
use Rattle.std.proofs.lemmas.Bool.{le-leb, lt-leb}
use Rattle.closing.specs.Counting.{backed}
use Rattle.closing.proofs.Scans.{first_on, first_at, first_out}
use Rattle.closing.proofs.counting.leading.Goals as goal
use Rattle.closing.proofs.counting.leading.Goals.{in-Some+else-q-count_backers, in_default}

pub returns-then-q-count_backers : goal.returns-then-q-count_backers
returns-then-q-count_backers g c =
    let xs = g.H.Hearing.cells c.args.heard.now in
    let h : c.loop-node.node < length xs = omega arith in
    sym (first_at (backed g.R.Reading.meaning c.args.q xs) xs c.loop-node.node (Some c.in-Some.r) h c.in-Some.ensures
    (le-leb _ _ (omega (arith, c.count_backers.ensures, c.if-q-count_backers.true))))
    ∙ c.loop-node.invariant

pub loop-node-preserved : goal.loop-node-preserved
loop-node-preserved g c =
    let xs = g.H.Hearing.cells c.args.heard.now in
    let h : c.loop-node.node < length xs = omega arith in
    let p = backed g.R.Reading.meaning c.args.q xs in
    elim c.match-cell.branch [
      | in-Some+else-q-count_backers w ↦
          sym (first_on p xs c.loop-node.node (Some w.in-Some.r) h w.in-Some.ensures (lt-leb _ _ (omega (arith, w.count_backers.ensures, w.if-q-count_backers.false)))) ∙ c.loop-node.invariant
      | in_default w ↦ sym (first_on p xs c.loop-node.node None h w.in_default.ensures refl) ∙ c.loop-node.invariant
    ]

pub returns : goal.returns
returns g c =
    let xs = g.H.Hearing.cells c.args.heard.now in
    sym (first_out (backed g.R.Reading.meaning c.args.q xs) xs c.loop-node.node (omega arith))
    ∙ c.loop-node.invariant
