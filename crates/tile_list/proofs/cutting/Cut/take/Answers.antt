use Rattle.scop_syntax.proofs.Common.{refl, on_ok_weaker, instance_of}
use Rattle.loop_tree.specs.TilingView.{tiling_of}
use Rattle.tile_list.proofs.TakenInstances.{takes_next, takes_same}
use Rattle.tile_list.proofs.cutting.Cut.take.Goals as goal

pub returns-then-is_of : goal.returns-then-is_of
returns-then-is_of c =
    on_ok_weaker c.grow.result
    (λ has. takes_same (tiling_of c.args.tiling.now) (instance_of c.args.instance) c.args.front.now c.args.spot.now
    c.args.self.now c.grow.new.self (c.if-is_of.ensures.same refl) has) c.grow.ensures

pub returns : goal.returns
returns c =
    on_ok_weaker c.begin.result
    (λ has. takes_next (tiling_of c.args.tiling.now) c.args.instance c.args.front.now c.args.spot.now
    c.args.self.now c.begin.new.self c.set.new.self c.in_ok-set.ensures (c.if-is_of.ensures.other refl) has)
    c.begin.ensures
