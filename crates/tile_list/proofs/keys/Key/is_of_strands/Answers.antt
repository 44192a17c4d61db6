use Rattle.scop_syntax.proofs.Common.{all_next, all_taken}
use Rattle.loop_tree.specs.TilingView.{tiling_of}
use Rattle.tile_list.specs.steps.Stretching.{AllHaveKey}
use Rattle.tile_list.proofs.keys.Key.is_of_strands.Goals as goal

pub loop-strand-preserved : goal.loop-strand-preserved
loop-strand-preserved c =
    all_next (AllHaveKey (tiling_of c.args.tiling.now) c.args.self.now) c.args.strands.now
    c.loop-strand.strand-index c.strand-item.result c.strand-item.is c.loop-strand-test.true c.loop-strand.invariant
    (c.is_of_strand.ensures c.if-not-is_of_strand.false)

pub returns : goal.returns
returns c true =
    all_taken (AllHaveKey (tiling_of c.args.tiling.now) c.args.self.now) c.args.strands.now
    c.loop-strand.strand-index c.loop-strand-test.false c.loop-strand.invariant
