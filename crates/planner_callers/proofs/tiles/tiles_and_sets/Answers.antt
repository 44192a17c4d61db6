use Rattle.scop_syntax.proofs.Common.{◌≡◌, map, pos, subst, IfOk-weaker}
use Rattle.loop_tree.specs.TilingView.{tiling_of}
use Rattle.tile_skew.specs.ScanSets.{most_iterators, scan_set}
use Rattle.tile_skew.specs.Tilings.{schedule_tiling, statement_items}
use Rattle.planner_callers.proofs.tiles.tiles_and_sets.Goals as goal

pub returns-clause-tiling : goal.returns-clause-tiling
returns-clause-tiling c = IfOk-weaker c.tiling_and_sets.result _ _ (λ found is s none.
    subst (λ n. tiling_of found.0 ≡ schedule_tiling c.args.size n s.blocks) none (is s)) c.tiling_and_sets.ensures.tiling

pub returns-clause-sets : goal.returns-clause-sets
returns-clause-sets c = IfOk-weaker c.tiling_and_sets.result _ _ (λ found is s none. subst
    (λ statements. found.1.items ≡ map (λ m. scan_set (pos c.args.size)
    (most_iterators c.args.schedule.now.model.statements) m (statement_items s.blocks m.number)) statements) none
    (is s)) c.tiling_and_sets.ensures.sets
