use Rattle.scop_syntax.proofs.Common.{subst, sym, [], has_parameters, program_of}
use Rattle.loop_tree.specs.Conditions.{CanWalk}
use Rattle.loop_tree.specs.TilingView.{tiling_of}
use Rattle.loop_tree.specs.View.{trees_in}
use Rattle.loop_tree.specs.Walk.{visits}
use Rattle.tile_list.specs.Tiles.{CanTile, RiseByTile}
use Rattle.tile_runs.proofs.cases.tiles_of.Goals as goal

pub tiles-requires-clause-walk : goal.tiles-requires-clause-walk
tiles-requires-clause-walk c =
    let ts = trees_in c.args.tree.now in
    subst (λ ps. CanWalk ts ps []) (sym c.deref.ensures.value)
    (c.trees_of_plans_can_be_walked.ensures (program_of c.args.kernel.now) c.args.case.now.params.items
    c.requires.trees.0 (tiling_of c.args.tiling.now) ts c.requires.trees.1 (has_parameters c.requires.limits))

pub tiles-requires-clause-rise : goal.tiles-requires-clause-rise
tiles-requires-clause-rise c =
    let program = program_of c.args.kernel.now in
    let params = c.args.case.now.params.items in
    let tiling = tiling_of c.args.tiling.now in
    let ts = trees_in c.args.tree.now in
    let has = has_parameters c.requires.limits in
    subst (λ ps. RiseByTile tiling (visits ts ps)) (sym c.deref.ensures.value)
    (c.orders_rise_by_tile.ensures program params tiling (visits ts params)
    (c.requires.trees.1.carry_out params has).exact
    (c.waves_have_one_length.ensures program params c.requires.trees.0 tiling ts c.requires.trees.1 has))

pub tiles-requires-clause-fits : goal.tiles-requires-clause-fits
tiles-requires-clause-fits c =
    subst (λ ps. CanTile (tiling_of c.args.tiling.now) (visits (trees_in c.args.tree.now) ps))
    (sym c.deref.ensures.value) c.requires.fits
