use Rattle.scop_syntax.proofs.Common.{[]}
use Rattle.loop_tree.specs.Tiling.{tiled}
use Rattle.run_callers.proofs.tiles.instances_rise_by_tiles_of_size_1.Goals as goal

pub returns : goal.returns
returns c = λ program statements xs order one.
    c.orders_rise_by_tile.ensures program [] (tiled 1 statements) xs order one
