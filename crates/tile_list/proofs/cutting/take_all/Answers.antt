use Rattle.scop_syntax.proofs.Common.{instance_of}
use Rattle.loop_tree.specs.SpotView.{to_come}
use Rattle.loop_tree.specs.TilingView.{tiling_of}
use Rattle.loop_tree.specs.View.{trees_in}
use Rattle.tile_list.proofs.WholeLists.{left_fits, taken_next, taken_visited}
use Rattle.tile_list.proofs.cutting.take_all.Goals as goal

pub take_rest-requires-clause-fits : goal.take_rest-requires-clause-fits
take_rest-requires-clause-fits c =
    let ts = trees_in c.args.tree.now in
    let params = c.args.params.now in
    left_fits ts params (tiling_of c.args.tiling.now) c.args.spot.now c.args.cut.now c.requires.fits
    c.requires.cut

pub leave_loops-requires-clause-spot : goal.leave_loops-requires-clause-spot
leave_loops-requires-clause-spot c =
    c.in_ok-take_rest.ensures.spots (trees_in c.args.tree.now) c.args.params.now c.requires.come.spot_is

pub leave_loops-requires-clause-cut : goal.leave_loops-requires-clause-cut
leave_loops-requires-clause-cut c =
    c.in_ok-take_rest.ensures.cut (trees_in c.args.tree.now) c.args.params.now c.requires.cut

pub take-requires : goal.take-requires
take-requires c =
    let ts = trees_in c.args.tree.now in
    let params = c.args.params.now in
    let x = instance_of c.in-Some.instance in
    c.requires.fits.rows x
    (taken_visited ts params (tiling_of c.args.tiling.now) x (to_come ts params c.loop-instance.spot)
    (to_come ts params c.next.new.spot) c.loop-instance.cut c.in-Some.ensures.rest c.loop-instance.invariant.cut)

pub take_rest-requires-in-Some-clause-fits : goal.take_rest-requires-in-Some-clause-fits
take_rest-requires-in-Some-clause-fits c =
    let ts = trees_in c.args.tree.now in
    let params = c.args.params.now in
    let tiling = tiling_of c.args.tiling.now in
    left_fits ts params tiling c.next.new.spot c.take.new.self c.requires.fits
    (taken_next ts params tiling (instance_of c.in-Some.instance) (to_come ts params c.loop-instance.spot)
    c.next.new.self c.next.new.spot c.loop-instance.cut c.take.new.self c.in-Some.ensures.rest c.requires.rise
    c.in-Some.ensures.come
    c.in_ok-take.ensures c.loop-instance.invariant.cut)

pub leave_loops-requires-in-Some-clause-spot : goal.leave_loops-requires-in-Some-clause-spot
leave_loops-requires-in-Some-clause-spot c =
    c.in_ok-take_rest-2.ensures.spots (trees_in c.args.tree.now) c.args.params.now c.in-Some.ensures.come.spot_is

pub leave_loops-requires-in-Some-clause-cut : goal.leave_loops-requires-in-Some-clause-cut
leave_loops-requires-in-Some-clause-cut c =
    let ts = trees_in c.args.tree.now in
    let params = c.args.params.now in
    c.in_ok-take_rest-2.ensures.cut ts params
    (taken_next ts params (tiling_of c.args.tiling.now) (instance_of c.in-Some.instance)
    (to_come ts params c.loop-instance.spot) c.next.new.self c.next.new.spot c.loop-instance.cut c.take.new.self
    c.in-Some.ensures.rest c.requires.rise c.in-Some.ensures.come c.in_ok-take.ensures
    c.loop-instance.invariant.cut)

pub loop-instance-init : goal.loop-instance-init
loop-instance-init c =
    record {
      spot = c.in_ok-leave_loops.ensures.goes.spot_is;
      cut = c.in_ok-leave_loops.ensures.goes.cut_is;
      front = c.requires.room;
      room = c.in_ok-leave_loops.ensures.room;
    }

pub loop-instance-preserved : goal.loop-instance-preserved
loop-instance-preserved c =
    record {
      spot = c.in_ok-leave_loops-2.ensures.goes.spot_is;
      cut = c.in_ok-leave_loops-2.ensures.goes.cut_is;
      front = c.in-Some.ensures.room;
      room = c.in_ok-leave_loops-2.ensures.room;
    }
