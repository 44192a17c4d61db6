use Rattle.loop_tree.specs.TilingView.{tiling_of}
use Rattle.tile_list.proofs.Stretches.{sized, strand_has_key}
use Rattle.tile_list.proofs.keys.Key.is_of_strand.Goals as goal

pub returns : goal.returns
returns c last =
    strand_has_key (tiling_of c.args.tiling.now) c.args.strand.now c.args.self.now (sized c.args.tiling.now)
    (c.is_on.ensures c.if-not-is_on.false) (c.is_on-2.ensures last)
