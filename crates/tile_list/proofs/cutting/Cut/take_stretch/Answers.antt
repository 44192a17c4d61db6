use Rattle.scop_syntax.proofs.Common.{subst}
use Rattle.loop_tree.specs.TilingView.{tiling_of}
use Rattle.tile_list.specs.steps.Keys.{IsKeyOf}
use Rattle.tile_list.proofs.TakenInstances.{passes_stretch}
use Rattle.tile_list.proofs.cutting.Cut.take_stretch.Goals as goal

pub returns : goal.returns
returns c =
    let tiling = tiling_of c.args.tiling.now in
    let key = c.args.self.now.key in
    let front = subst (λ x. IsKeyOf tiling x key) (c.follows.ensures.one.0 c.if-not-follows.false) c.requires.key in
    passes_stretch tiling c.args.spot.now c.args.self.now c.grow.new.self
    (c.is_of_stretch.ensures c.if-not-is_of_stretch.false front) c.in_ok-grow.ensures
