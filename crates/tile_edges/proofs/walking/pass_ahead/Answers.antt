use Rattle.scop_syntax.proofs.Common.{◌≤◌, ◌++◌, [], arith, length, subst, sym, All, program_of}
use Rattle.loop_tree.specs.Braids.{left_of_braid}
use Rattle.loop_tree.specs.Conditions.{IsHeld}
use Rattle.loop_tree.specs.Spot.{rest_of}
use Rattle.loop_tree.specs.SpotView.{marks_in, to_come}
use Rattle.loop_tree.specs.TilingView.{tiling_of}
use Rattle.loop_tree.specs.View.{trees_in}
use Rattle.tile_edges.specs.Edges.{IsTileOf}
use Rattle.tile_edges.specs.steps.Finding.{IsFinder}
use Rattle.tile_edges.specs.steps.Walks.{IsOnItsWay}
use Rattle.tile_edges.proofs.Ahead.{fewer_on, fit_ahead, left_held}
use Rattle.tile_edges.proofs.walking.pass_ahead.Goals as goal

pub ahead-requires-clause-fits : goal.ahead-requires-clause-fits
ahead-requires-clause-fits c =
    fit_ahead c.args.flow (program_of c.args.kernel.now) c.args.params.now (trees_in c.args.source.now)
    (tiling_of c.args.tiling.now) c.args.list.now c.args.table.now c.args.spot.now c.args.pass.now.traces
    c.args.pass.now.pairs c.requires.can c.requires.passing.way

pub ahead-requires-clause-front : goal.ahead-requires-clause-front
ahead-requires-clause-front c =
    subst (IsTileOf (tiling_of c.args.tiling.now) c.args.list.now c.args.pass.now.finder.at)
    (c.follows.ensures.one.0 c.if-not-follows.false) c.requires.front

pub take_ahead-requires-clause-some : goal.take_ahead-requires-clause-some
take_ahead-requires-clause-some c = omega (arith, c.if-count-eq0.false)

pub go_along-requires-clause-some : goal.go_along-requires-clause-some
go_along-requires-clause-some c = omega (arith, c.if-count-eq0.false)

pub returns-clause-passing : goal.returns-clause-passing
returns-clause-passing c =
    let spot = c.args.spot.now in
    let is = c.requires.passing.spot_is in
    let behind = left_of_braid spot.braid ++ rest_of (trees_in c.args.source.now) (marks_in spot) c.args.params.now [] in
    record {
      spot_is = record {
        room = is.room;
        stands = is.stands;
        held = subst (All IsHeld) (sym c.go_along.ensures)
            (left_held spot.stretch c.in_ok-count.count c.in_ok-count.ensures.few is.held);
        braid = is.braid;
      };
      finder = subst (IsFinder (tiling_of c.args.tiling.now) c.args.list.now) (sym c.in_ok-take_ahead.ensures.finder)
          c.in_ok-count.ensures.finder;
      room = c.in_ok-take_ahead.ensures.room;
      way = subst (λ xs. IsOnItsWay c.args.flow (program_of c.args.kernel.now) c.args.params.now
          (tiling_of c.args.tiling.now) c.args.list.now (xs ++ behind) c.take_ahead.new.pass.traces
          c.take_ahead.new.pass.pairs) (sym c.go_along.ensures) c.in_ok-take_ahead.ensures.way;
    }

pub returns-clause-fewer : goal.returns-clause-fewer
returns-clause-fewer c =
    let ts = trees_in c.args.source.now in
    let params = c.args.params.now in
    let spot = c.args.spot.now in
    let behind = left_of_braid spot.braid ++ rest_of ts (marks_in spot) params [] in
    subst (λ xs. length (xs ++ behind) ≤ length (to_come ts params spot)) (sym c.go_along.ensures)
    (fewer_on ts params spot c.in_ok-count.count)
