use Rattle.scop_syntax.proofs.Common.{subst, sym, ℤ, List, [], ⊤, MatchOption, is_some, IsInside, WithinLimits}
use Rattle.scop_syntax.proofs.Common.{has_parameters, AreMarked, program_of, walk_of}
use Rattle.loop_tree.specs.Conditions.{CanWalk}
use Rattle.loop_tree.specs.Plans.{AreInOrder}
use Rattle.loop_tree.specs.Tiling.{IsFlowPlan, IsGoodFor}
use Rattle.loop_tree.specs.TilingView.{tiling_of}
use Rattle.loop_tree.specs.View.{trees_in}
use Rattle.loop_tree.specs.Walk.{visits}
use Rattle.tile_table.specs.Tables.{IsTableBy}
use Rattle.tile_core.specs.Expansions.{IsExpansionOf}
use Rattle.tile_edges.specs.Edges.{AreEdgesOf}
use Rattle.tile_list.specs.TilesView.{IsTileListOf}
use Rattle.tile_runs.proofs.PlannedTrees.{order_kept, some_trees}
use Rattle.tile_runs.proofs.cases.plan_of.Goals as goal

pub returns-clause-plan : goal.returns-clause-plan
returns-clause-plan c =
    let params = c.args.case.now.params.items in
    let program = program_of c.args.kernel.now in
    let tiling = tiling_of c.args.tiling.now in
    let ts = trees_in c.args.tree.now in
    let marked = c.args.marked.now in
    let same = sym c.deref.ensures.value in
    let has = has_parameters c.requires.limits in
    let trees = some_trees c.args.expansion program marked tiling ts c.requires.trees in
    let order = (trees.1.carry_out params has).exact in
    let walk = c.trees_of_plans_can_be_walked.ensures program params trees.0 tiling ts trees.1 has in
    let good = order_kept c.args.expansion program marked tiling ts params has c.requires.trees in
    record {
      tiling = tiling;
      limits = subst (λ (ps : List ℤ). WithinLimits program ps) same c.requires.limits;
      inside = subst (λ (ps : List ℤ). IsInside program ps) same c.requires.inside;
      table = subst (λ (ps : List ℤ). IsTableBy marked program ps c.args.table.now) same c.requires.table;
      walk = subst (λ (ps : List ℤ). CanWalk ts ps []) same walk;
      order = subst (λ (ps : List ℤ). AreInOrder program ps tiling (visits ts ps)) same order;
      marks = subst (λ (ps : List ℤ). AreMarked marked (walk_of program ps)) same c.requires.marks;
      good = subst (λ (ps : List ℤ). MatchOption c.args.expansion (IsGoodFor program ps marked tiling)
          (λ e. IsFlowPlan program ps tiling)) same good;
      tiles = subst (λ (ps : List ℤ). IsTileListOf ts ps tiling c.args.list.now) same c.requires.tiles;
      edges = subst (λ (ps : List ℤ). MatchOption c.args.edges ⊤
          (λ e. AreEdgesOf (is_some c.args.expansion) program ps tiling c.args.list.now e.now)) same c.requires.edges;
      room = c.requires.room;
      alone = c.requires.alone;
      copies = subst (λ (ps : List ℤ).
          MatchOption c.args.expansion ⊤ (λ e. IsExpansionOf program ps ts c.args.list.now e.now)) same c.requires.copies;
      unmarked = c.requires.unmarked;
    }
