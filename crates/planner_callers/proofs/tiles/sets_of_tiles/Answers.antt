use Rattle.scop_syntax.proofs.Common.{◌≡◌, map, pos, subst, IfOk-weaker}
use Rattle.tile_skew.specs.ScanSets.{most_iterators, scan_set}
use Rattle.tile_skew.specs.Tilings.{statement_items}
use Rattle.planner_callers.proofs.tiles.sets_of_tiles.Goals as goal

pub returns : goal.returns
returns c = IfOk-weaker c.tiled.result _ _ (λ sets is s none. subst
    (λ statements. sets.items ≡ map (λ m. scan_set (pos c.args.size)
    (most_iterators c.args.schedule.now.model.statements) m (statement_items s.blocks m.number)) statements) none
    (is s)) c.tiled.ensures
