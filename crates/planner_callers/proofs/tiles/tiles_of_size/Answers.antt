use Rattle.scop_syntax.proofs.Common.{◌≡◌, subst, IfOk-weaker}
use Rattle.loop_tree.specs.TilingView.{tiling_of}
use Rattle.tile_skew.specs.Tilings.{schedule_tiling}
use Rattle.planner_callers.proofs.tiles.tiles_of_size.Goals as goal

pub returns : goal.returns
returns c = IfOk-weaker c.tiling.result _ _ (λ found is s none.
    subst (λ n. tiling_of found ≡ schedule_tiling c.args.size n s.blocks) none (is s)) c.tiling.ensures
