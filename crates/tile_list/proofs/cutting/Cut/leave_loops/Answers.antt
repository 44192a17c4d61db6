use Rattle.scop_syntax.proofs.Common.{◌∙◌, ap, length, instance_of}
use Rattle.loop_tree.specs.SpotView.{to_come}
use Rattle.loop_tree.specs.TilingView.{tiling_of}
use Rattle.loop_tree.specs.View.{trees_in}
use Rattle.loop_tree.specs.declared.spot.Spot.{Spot}
use Rattle.tile_list.proofs.LeftLoops.{last_visited, leaves, stays}
use Rattle.tile_list.proofs.WholeLists.{rest_visited}
use Rattle.tile_list.proofs.cutting.Cut.leave_loops.Goals as goal

pub leave-requires-clause-spent : goal.leave-requires-clause-spent
leave-requires-clause-spent c = c.has_left.ensures c.if-has_left.false

pub leave-requires-clause-fits : goal.leave-requires-clause-fits
leave-requires-clause-fits c = λ x h.
    let ts = trees_in c.args.tree.now in
    let params = c.args.params.now in
    c.requires.fits.rows x
    (rest_visited ts params (tiling_of c.args.tiling.now) (to_come ts params c.args.spot.now) c.args.self.now
    c.requires.cut x h)

pub is_of-requires : goal.is_of-requires
is_of-requires c =
    let ts = trees_in c.args.tree.now in
    let params = c.args.params.now in
    let z = instance_of c.in-Some.passed.last in
    c.requires.fits.rows z
    (last_visited ts params (tiling_of c.args.tiling.now) (to_come ts params c.args.spot.now) c.in-Some.passed.count z
    (to_come ts params c.leave.new.self.spot) c.args.self.now c.in-Some.ensures.left c.requires.cut)

pub returns-then-has_left : goal.returns-then-has_left
returns-then-has_left c =
    record {
      goes = stays (trees_in c.args.tree.now) c.args.params.now (tiling_of c.args.tiling.now) c.args.spot.now
          c.args.self.now c.requires.spot c.requires.cut;
      room = c.requires.room;
    }

pub returns : goal.returns
returns c =
    record {
      goes = leaves (trees_in c.args.tree.now) c.args.params.now (tiling_of c.args.tiling.now) c.args.spot.now
          c.leave.new.self.spot c.set.new.self c.in-Some.passed.count (instance_of c.in-Some.passed.last)
          c.args.self.now c.grow.new.self c.requires.rise c.in-Some.ensures.left c.in-Some.ensures.spot c.set.ensures
          (c.is_of.ensures.same c.if-not-is_of.false) c.in_ok-grow.ensures c.requires.cut;
      room = ap (λ (s : Spot). length s.marks.items) c.found.ensures ∙ c.leave.ensures.room;
    }
