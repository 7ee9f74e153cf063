use Rattle.std.proofs.Common.{ℕ, [], ◌∷◌, ◌++◌, map, get_or, None, sym, ap, ◌∙◌, arith}
use Rattle.std.proofs.lemmas.List.FromFn.{map-range_with_len_more}
use Rattle.std.proofs.lemmas.List.{get_or_default}
use Rattle.std.specs.List.{range_with_len}
use Rattle.law.specs.declared.calls.SetupCall.TheVariants.{Propose}
use Rattle.law.specs.Runs.{Prepared, SetupMove, setup_run}
use Rattle.participant.specs.Participants.{setup_move}
use Rattle.participant.proofs.BeginLaws.{none_yet, one_more}
use Rattle.participant.proofs.begin.propose_cells.Goals as goal

pub loop-item-init : goal.loop-item-init
loop-item-init g c = none_yet (record { table = c.args.setup.now.table; values = c.args.values.now })

pub loop-item-preserved : goal.loop-item-preserved
loop-item-preserved g c =
    let p₀ : Prepared g.row.R.Denot = record { table = c.args.setup.now.table; values = c.args.values.now } in
    let i = c.args.node in
    let k = c.loop-item.item in
    let cells = c.args.cells.now in
    let x = c.index-cells-item.result in
    let f : ℕ → SetupMove g.row.R.Denot = λ j. setup_move (Propose i j (get_or cells j None)) in
    one_more p₀ (record { table = c.loop-item.setup.table; values = c.loop-item.values }) (record { table = c.apply_setup.new.setup.table; values = c.apply_setup.new.values })
    (map f (range_with_len 0 k)) (Propose i k x) c.apply_setup.result (omega (arith, c.loop-item.auto.values, c.requires)) c.loop-item.invariant c.apply_setup.ensures
    ∙ ap (λ y. setup_run p₀ (map f (range_with_len 0 k) ++ setup_move (Propose i k y) ∷ [])) (c.index-cells-item.is ∙ get_or_default cells k x None c.loop-item-test.true)
    ∙ ap (setup_run p₀) (sym (map-range_with_len_more f 0 k k (omega arith)))
