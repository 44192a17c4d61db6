use Rattle.loop_tree.specs.TilingView.{tiling_of}
use Rattle.tile_list.proofs.Stretches.{sized, stretch_has_key}
use Rattle.tile_list.proofs.keys.Key.is_of_stretch.Goals as goal

pub returns : goal.returns
returns c last front =
    stretch_has_key (tiling_of c.args.tiling.now) c.args.stretch.now c.args.self.now (sized c.args.tiling.now) front
    (c.is_on.ensures last)
