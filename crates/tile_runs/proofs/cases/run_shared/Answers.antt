use Rattle.scop_syntax.proofs.Common.{◌≡◌, ◌∙◌, ℤ, Bool, List, [], ap, arith, subst, sym, ⊤, MatchOption, is_some}
use Rattle.scop_syntax.proofs.Common.{total_cells, has_parameters, program_of, walk_of}
use Rattle.loop_tree.specs.Plans.{walked}
use Rattle.loop_tree.specs.Tiling.{tile_of, wave_of}
use Rattle.loop_tree.specs.TilingView.{tiling_of}
use Rattle.loop_tree.specs.View.{trees_in}
use Rattle.loop_tree.specs.Walk.{visits}
use Rattle.planned_trees.specs.Trees.{AreFlowTreesOf, AreTreesOf}
use Rattle.tile_core.specs.Expansions.{IsExpansionOf}
use Rattle.tile_core.specs.Plans.{HaveRoom}
use Rattle.tile_edges.specs.Counting.{IsReleaseOf}
use Rattle.tile_edges.specs.Edges.{AreEdgesOf}
use Rattle.tile_list.specs.Counting.{HasTiles, HasWaves}
use Rattle.tile_runs.proofs.FinalCells.{executes}
use Rattle.tile_runs.proofs.LentPairs.{as_there, lent, lent_some}
use Rattle.tile_runs.proofs.Members.{walked_values}
use Rattle.tile_runs.proofs.PlannedTrees.{some_trees}
use Rattle.tile_runs.proofs.cases.run_shared.Goals as goal

pub run_row-requires-clause-cells : goal.run_row-requires-clause-cells
run_row-requires-clause-cells g c = c.requires.cells ∙ ap total_cells (sym c.plan_of-plan.ensures.laid)

pub parts_of-requires-clause-cells : goal.parts_of-requires-clause-cells
parts_of-requires-clause-cells g c =
    let all = c.requires.cells ∙ ap total_cells c.requires.laid in
    let most = c.requires.limits.cells in
    c.cells_with-cells.ensures (omega (arith, all, most)) ∙ all

pub plan_of-plan-requires-clause-alone : goal.plan_of-plan-requires-clause-alone
plan_of-plan-requires-clause-alone g c =
    lent (λ e. c.args.marked.now ≡ []) c.as_ref-edges.result c.in_ok-parts.parts.pairs c.as_ref-edges.ensures.value
    c.in_ok-parts.ensures.alone

pub plan_of-plan-requires-clause-edges : goal.plan_of-plan-requires-clause-edges
plan_of-plan-requires-clause-edges g c =
    let program = program_of c.args.kernel.now in
    let params = c.args.case.now.params.items in
    let tiling = tiling_of c.args.tiling.now in
    let list = c.in_ok-parts.parts.list in
    subst (λ (b : Bool). MatchOption c.as_ref-edges.result ⊤ (λ e. AreEdgesOf b program params tiling list e.now))
    (sym (lent_some c.as_ref-expansion.result c.in_ok-parts.parts.expansion c.as_ref-expansion.ensures.value
    ∙ c.in_ok-parts.ensures.some))
    (lent (AreEdgesOf (is_some c.args.sources) program params tiling list) c.as_ref-edges.result
    c.in_ok-parts.parts.pairs c.as_ref-edges.ensures.value c.in_ok-parts.ensures.edges)

pub plan_of-plan-requires-clause-room : goal.plan_of-plan-requires-clause-room
plan_of-plan-requires-clause-room g c =
    lent (HaveRoom c.in_ok-parts.parts.list) c.as_ref-edges.result c.in_ok-parts.parts.pairs
    c.as_ref-edges.ensures.value c.in_ok-parts.ensures.room

pub plan_of-plan-requires-clause-trees : goal.plan_of-plan-requires-clause-trees
plan_of-plan-requires-clause-trees g c =
    let program = program_of c.args.kernel.now in
    let tiling = tiling_of c.args.tiling.now in
    let ts = trees_in c.args.tree.now in
    as_there (AreTreesOf program c.args.marked.now tiling ts) (AreFlowTreesOf program tiling ts)
    c.as_ref-expansion.result c.args.sources
    (lent_some c.as_ref-expansion.result c.in_ok-parts.parts.expansion c.as_ref-expansion.ensures.value
    ∙ c.in_ok-parts.ensures.some)
    c.requires.trees

pub plan_of-plan-requires-clause-unmarked : goal.plan_of-plan-requires-clause-unmarked
plan_of-plan-requires-clause-unmarked g c =
    as_there ⊤ (c.args.marked.now ≡ []) c.as_ref-expansion.result c.args.sources
    (lent_some c.as_ref-expansion.result c.in_ok-parts.parts.expansion c.as_ref-expansion.ensures.value
    ∙ c.in_ok-parts.ensures.some)
    c.requires.unmarked

pub plan_of-plan-requires-clause-copies : goal.plan_of-plan-requires-clause-copies
plan_of-plan-requires-clause-copies g c =
    lent (IsExpansionOf (program_of c.args.kernel.now) c.args.case.now.params.items (trees_in c.args.tree.now)
    c.in_ok-parts.parts.list) c.as_ref-expansion.result c.in_ok-parts.parts.expansion
    c.as_ref-expansion.ensures.value c.in_ok-parts.ensures.copies

pub returns-clause-executed : goal.returns-clause-executed
returns-clause-executed g c =
    executes c.plan_of-plan.result (program_of c.args.kernel.now) c.args.case.now.params.items
    c.args.case.now.extents _ _ c.plan_of-plan.ensures.program c.plan_of-plan.ensures.params c.plan_of-plan.ensures.laid
    c.in_ok-run_row.ensures.executed

pub returns-clause-tiles : goal.returns-clause-tiles
returns-clause-tiles g c =
    let program = program_of c.args.kernel.now in
    let params = c.args.case.now.params.items in
    let tiling = tiling_of c.args.tiling.now in
    let ts = trees_in c.args.tree.now in
    let trees = some_trees c.args.sources program c.args.marked.now tiling ts c.requires.trees in
    let order = (trees.1.carry_out params (has_parameters c.requires.limits)).exact in
    subst (HasTiles tiling (walked program params)) (sym c.counts_of.ensures.tiles)
    (walked_values {K = List ℤ × List ℤ} (λ x. (wave_of tiling x, tile_of tiling x)) program params tiling
    (visits ts params) _ order
    (c.tiles_are_counted.ensures.tiles ts params tiling c.in_ok-parts.parts.list c.in_ok-parts.ensures.list))

pub returns-clause-waves : goal.returns-clause-waves
returns-clause-waves g c =
    let program = program_of c.args.kernel.now in
    let params = c.args.case.now.params.items in
    let tiling = tiling_of c.args.tiling.now in
    let ts = trees_in c.args.tree.now in
    let trees = some_trees c.args.sources program c.args.marked.now tiling ts c.requires.trees in
    let order = (trees.1.carry_out params (has_parameters c.requires.limits)).exact in
    subst (HasWaves tiling (walked program params)) (sym c.counts_of.ensures.waves)
    (walked_values (wave_of tiling) program params tiling (visits ts params) _ order
    (c.tiles_are_counted.ensures.waves ts params tiling c.in_ok-parts.parts.list c.in_ok-parts.ensures.list))

pub returns-clause-edges : goal.returns-clause-edges
returns-clause-edges g c =
    subst (IsReleaseOf c.args.release (is_some c.args.sources) (tiling_of c.args.tiling.now)
    (walk_of (program_of c.args.kernel.now) c.args.case.now.params.items))
    (sym (c.counts_of.ensures.edges ∙ c.pairs_in.ensures)) c.in_ok-parts.ensures.count
