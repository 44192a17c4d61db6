use Rattle.scop_syntax.proofs.Common.{◌≡◌, ℕ, ℤ, Bool, List, [], length, subst, true, option_map, ⊤, MatchOption}
use Rattle.scop_syntax.proofs.Common.{program_of, walk_of}
use Rattle.loop_tree.specs.TilingView.{tiling_of}
use Rattle.loop_tree.specs.View.{trees_in}
use Rattle.tile_table.specs.Tables.{IsTableBy}
use Rattle.tile_edges.specs.Counting.{IsReleaseOf}
use Rattle.tile_edges.specs.Edges.{AreEdgesOf}
use Rattle.tile_runs.proofs.LentPairs.{then_there}
use Rattle.tile_runs.proofs.PlannedTrees.{some_trees}
use Rattle.tile_runs.proofs.cases.parts_of.Goals as goal

pub tiles_of-requires-clause-trees : goal.tiles_of-requires-clause-trees
tiles_of-requires-clause-trees c =
    some_trees c.args.sources (program_of c.args.kernel.now) c.args.marked.now (tiling_of c.args.tiling.now)
    (trees_in c.args.tree.now) c.requires.trees

pub edges_of-requires-clause-trees : goal.edges_of-requires-clause-trees
edges_of-requires-clause-trees c =
    some_trees c.args.sources (program_of c.args.kernel.now) c.args.marked.now (tiling_of c.args.tiling.now)
    (trees_in c.args.tree.now) c.requires.trees

pub edges_of-requires-clause-table : goal.edges_of-requires-clause-table
edges_of-requires-clause-table c = λ yes.
    let program = program_of c.args.kernel.now in
    let by = subst (λ (ps : List ℤ). IsTableBy c.args.marked.now program ps c.in_ok-table.table)
    c.deref.ensures.value c.in_ok-table.ensures in
    subst (λ (ms : List ℕ). IsTableBy ms program c.args.case.now.params.items c.in_ok-table.table)
    (c.requires.alone yes) by

pub expansion_of-requires-clause-trees : goal.expansion_of-requires-clause-trees
expansion_of-requires-clause-trees c =
    let tiling = tiling_of c.args.tiling.now in
    let trees = some_trees c.args.sources (program_of c.args.kernel.now) c.args.marked.now tiling
    (trees_in c.args.tree.now) c.requires.trees in
    (trees.0, tiling, trees.1)

pub returns-clause-table : goal.returns-clause-table
returns-clause-table c =
    subst (λ (ps : List ℤ). IsTableBy c.args.marked.now (program_of c.args.kernel.now) ps c.in_ok-table.table)
    c.deref.ensures.value c.in_ok-table.ensures

pub returns-clause-edges : goal.returns-clause-edges
returns-clause-edges c =
    subst (λ (b : Bool). MatchOption c.in_ok-pairs.pairs ⊤ (AreEdgesOf b (program_of c.args.kernel.now)
    c.args.case.now.params.items (tiling_of c.args.tiling.now) c.in_ok-list.list)) c.is_some-flow.ensures
    c.in_ok-pairs.ensures.edges

pub returns-clause-alone : goal.returns-clause-alone
returns-clause-alone c =
    then_there (c.args.release ≡ true) (c.args.marked.now ≡ []) c.in_ok-pairs.pairs c.requires.alone
    c.in_ok-pairs.ensures.released

pub returns-clause-count : goal.returns-clause-count
returns-clause-count c =
    subst (λ (b : Bool). IsReleaseOf c.args.release b (tiling_of c.args.tiling.now)
    (walk_of (program_of c.args.kernel.now) c.args.case.now.params.items)
    (option_map (λ e. length e.targets.items) c.in_ok-pairs.pairs)) c.is_some-flow.ensures c.in_ok-pairs.ensures.count
