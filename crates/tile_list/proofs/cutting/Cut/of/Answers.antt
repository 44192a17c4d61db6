use Rattle.loop_tree.specs.TilingView.{tiling_of}
use Rattle.tile_list.proofs.WholeLists.{begins}
use Rattle.tile_list.proofs.cutting.Cut.of.Goals as goal

pub returns : goal.returns
returns c =
    begins (tiling_of c.args.tiling.now) c.args.first c.args.front.now c.args.spot.now
    (record { tiles = c.new.result; current = c.in_ok-current.current; key = c.set.new.self; next = c.empty.result })
    c.in_ok-set.ensures c.in_ok-current.ensures c.new.ensures.items
