use Rattle.std.proofs.Common.{rules}
use Rattle.transcript.proofs.RunLaws.{begun_on, not_begun}
use Rattle.reading.specs.declared.bearing.Bearing.{Bearing}
use Rattle.reading.specs.declared.lamp.Lamp.{Lamp}
use Rattle.reading.specs.declared.kind.Kind.TheVariants.{Bearings, Lamps}
use Rattle.transcript.specs.Runs.{bearings, lamps}
use Rattle.transcript.proofs.run.new_run.Goals as goal

pub returns-in_ok-make-in-Bearings : goal.returns-in_ok-make-in-Bearings
returns-in_ok-make-in-Bearings c = search (rules, begun_on c.args.n c.args.m Bearings bearings)

pub returns-in_err-make-in-Bearings : goal.returns-in_err-make-in-Bearings
returns-in_err-make-in-Bearings c = search (rules, not_begun Bearing c.args.n c.args.m Bearings)

pub returns-in_ok-make-in-Lamps : goal.returns-in_ok-make-in-Lamps
returns-in_ok-make-in-Lamps c = search (rules, begun_on c.args.n c.args.m Lamps lamps)

pub returns-in_err-make-in-Lamps : goal.returns-in_err-make-in-Lamps
returns-in_err-make-in-Lamps c = search (rules, not_begun Lamp c.args.n c.args.m Lamps)
