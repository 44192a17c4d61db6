use Rattle.scop_syntax.proofs.Common.{◌∙◌, arith, has_parameters, program_of}
use Rattle.loop_tree.specs.TilingView.{tiling_of}
use Rattle.tile_edges.proofs.PassedPlaces.{none_passed}
use Rattle.tile_edges.proofs.walking.pairs_of.Goals as goal

pub of_source-requires : goal.of_source-requires
of_source-requires c = c.requires.limits.kernel

pub pass_rest-requires-clause-walk : goal.pass_rest-requires-clause-walk
pass_rest-requires-clause-walk c =
    c.in_ok-source.ensures.walk c.args.params.now (has_parameters c.requires.limits)

pub pass_rest-requires-clause-passing : goal.pass_rest-requires-clause-passing
pass_rest-requires-clause-passing c = record {
  spot_is = c.in_ok-spot.ensures.spot c.args.params.now;
  finder = c.in_ok-pass.ensures.finder;
  room = c.in_ok-pass.ensures.room;
  way = record {
    done = 0;
    within = omega arith;
    left = c.in_ok-spot.ensures.rest c.args.params.now
        ∙ c.in_ok-source.ensures.visits c.args.params.now c.requires.limits.count;
    passed = none_passed c.args.flow (program_of c.args.kernel.now) c.args.params.now (tiling_of c.args.tiling.now)
        c.args.list.now c.in_ok-pass.pass.traces c.in_ok-pass.pass.pairs c.in_ok-pass.ensures.even
        c.in_ok-pass.ensures.marks c.in_ok-pass.ensures.readers c.in_ok-pass.ensures.long
        c.in_ok-pass.ensures.none c.in_ok-pass.ensures.kept;
  };
}
