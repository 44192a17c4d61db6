use Rattle.scop_syntax.proofs.Common.{rules, ◌≡◌, List, ℤ, [], length, subst, sym, true, option_map, ⊤, MatchOption}
use Rattle.scop_syntax.proofs.Common.{Option, IfOk-weaker, IsInside, WithinLimits, has_parameters, program_of, walk_of}
use Rattle.loop_tree.specs.Conditions.{CanWalk}
use Rattle.loop_tree.specs.Plans.{AreInOrder}
use Rattle.loop_tree.specs.TilingView.{tiling_of}
use Rattle.loop_tree.specs.View.{trees_in}
use Rattle.loop_tree.specs.Walk.{visits}
use Rattle.tile_table.specs.Tables.{IsTableOf}
use Rattle.tile_edges.specs.Counting.{IsReleaseOf}
use Rattle.tile_edges.specs.Edges.{AreEdgesOf, AreTooMany}
use Rattle.tile_edges.specs.declared.waiting.TileEdges.{TileEdges}
use Rattle.tile_list.specs.Tiles.{CanTile}
use Rattle.tile_list.specs.TilesView.{IsTileListOf}
use Rattle.tile_runs.proofs.LentPairs.{told_many, told_pairs}
use Rattle.tile_runs.proofs.pairs.edges_of.Goals as goal

pub edges-requires-clause-limits : goal.edges-requires-clause-limits
edges-requires-clause-limits c =
    subst (λ (ps : List ℤ). WithinLimits (program_of c.args.kernel.now) ps) (sym c.deref.ensures.value)
    c.requires.limits

pub edges-requires-clause-inside : goal.edges-requires-clause-inside
edges-requires-clause-inside c =
    subst (λ (ps : List ℤ). IsInside (program_of c.args.kernel.now) ps) (sym c.deref.ensures.value) c.requires.inside

pub edges-requires-clause-table : goal.edges-requires-clause-table
edges-requires-clause-table c =
    let yes : c.args.release ≡ true = search rules in
    subst (λ (ps : List ℤ). IsTableOf (program_of c.args.kernel.now) ps c.args.table.now) (sym c.deref.ensures.value)
    (c.requires.table yes)

pub edges-requires-clause-walk : goal.edges-requires-clause-walk
edges-requires-clause-walk c =
    let ts = trees_in c.args.tree.now in
    subst (λ (ps : List ℤ). CanWalk ts ps []) (sym c.deref.ensures.value)
    (c.trees_of_plans_can_be_walked.ensures (program_of c.args.kernel.now) c.args.case.now.params.items
    c.requires.trees.0 (tiling_of c.args.tiling.now) ts c.requires.trees.1 (has_parameters c.requires.limits))

pub edges-requires-clause-order : goal.edges-requires-clause-order
edges-requires-clause-order c =
    let ts = trees_in c.args.tree.now in
    subst (λ (ps : List ℤ). AreInOrder (program_of c.args.kernel.now) ps (tiling_of c.args.tiling.now) (visits ts ps))
    (sym c.deref.ensures.value)
    (c.requires.trees.1.carry_out c.args.case.now.params.items (has_parameters c.requires.limits)).exact

pub edges-requires-clause-fits : goal.edges-requires-clause-fits
edges-requires-clause-fits c =
    subst (λ (ps : List ℤ). CanTile (tiling_of c.args.tiling.now) (visits (trees_in c.args.tree.now) ps))
    (sym c.deref.ensures.value) c.requires.fits

pub edges-requires-clause-tiles : goal.edges-requires-clause-tiles
edges-requires-clause-tiles c =
    subst (λ (ps : List ℤ). IsTileListOf (trees_in c.args.tree.now) ps (tiling_of c.args.tiling.now) c.args.list.now)
    (sym c.deref.ensures.value) c.requires.tiles

pub returns-in-Ok-clause-count : goal.returns-in-Ok-clause-count
returns-in-Ok-clause-count c =
    let program = program_of c.args.kernel.now in
    let params = c.args.case.now.params.items in
    let tiling = tiling_of c.args.tiling.now in
    let pairs = c.in-Ok.pairs in
    let yes : c.args.release ≡ true = search rules in
    let are = subst (λ (ps : List ℤ). AreEdgesOf c.args.flow program ps tiling c.args.list.now pairs) c.deref.ensures.value
    c.in-Ok.ensures.edges in
    let has = c.edges_are_counted.ensures.edges c.args.flow program params (trees_in c.args.tree.now) tiling c.args.list.now
    pairs c.requires.tiles (c.requires.trees.1.carry_out params (has_parameters c.requires.limits)).exact are in
    IfOk-weaker c.counted.result _ _
    (λ o is. subst (λ (m : Option TileEdges). IsReleaseOf c.args.release c.args.flow tiling (walk_of program params)
    (option_map (λ e. length e.targets.items) m)) (sym is)
    (told_pairs c.args.release c.args.flow tiling (walk_of program params) (length pairs.targets.items) yes has
    c.in-Ok.ensures.few))
    c.counted.ensures.same

pub returns-in-Ok-clause-released : goal.returns-in-Ok-clause-released
returns-in-Ok-clause-released c =
    let yes : c.args.release ≡ true = search rules in
    IfOk-weaker c.counted.result _ _
    (λ o is. subst (λ (m : Option TileEdges). MatchOption m ⊤ (λ e. c.args.release ≡ true)) (sym is) yes)
    c.counted.ensures.same

pub returns-in-Err-TooMany-clause-count : goal.returns-in-Err-TooMany-clause-count
returns-in-Err-TooMany-clause-count c =
    let program = program_of c.args.kernel.now in
    let params = c.args.case.now.params.items in
    let tiling = tiling_of c.args.tiling.now in
    let yes : c.args.release ≡ true = search rules in
    let many = subst (λ (ps : List ℤ). AreTooMany c.args.flow program ps tiling c.args.list.now) c.deref.ensures.value
    (c.in-Err-TooMany.ensures.many c.in-Err-TooMany.field-0-is) in
    told_many c.args.release c.args.flow tiling (walk_of program params) yes
    (c.edges_are_counted.ensures.more c.args.flow program params (trees_in c.args.tree.now) tiling c.args.list.now
    c.requires.tiles many)
