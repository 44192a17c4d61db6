use Rattle.scop_syntax.proofs.Common.{subst, sym}
use Rattle.loop_tree.specs.TilingView.{tiling_of}
use Rattle.tile_list.specs.Tiles.{RowsFit}
use Rattle.tile_list.specs.steps.Keys.{IsKeyOf}
use Rattle.tile_list.specs.Stretches.{instance_at}
use Rattle.tile_list.proofs.Stretches.{at_left, held_at}
use Rattle.tile_list.proofs.keys.Key.is_on.Goals as goal

pub after-requires : goal.after-requires
after-requires c = held_at c.args.stretch.now c.args.count c.requires.some c.requires.left c.requires.held

pub is_of-requires : goal.is_of-requires
is_of-requires c =
    let s = c.args.stretch.now in
    let n = c.args.count in
    subst (RowsFit (tiling_of c.args.tiling.now)) (sym c.after.ensures.instance)
    (c.requires.fits (instance_at s n) (at_left s n c.requires.some c.requires.left))

pub returns : goal.returns
returns c true =
    subst (λ x. IsKeyOf (tiling_of c.args.tiling.now) x c.args.self.now) c.after.ensures.instance (c.is_of.ensures.same true)
