use Rattle.scop_syntax.proofs.Common.{◌≡◌, ◌+◌, ◌<◌, ◌≤◌, suc, [], arith, subst}
use Rattle.tile_core.specs.Boards.{seen_of}
use Rattle.tile_core.specs.Cores.{plan_in, state_in}
use Rattle.tile_core.specs.Plans.{walk_shape}
use Rattle.tile_events.specs.Core.{working}
use Rattle.tile_runs.specs.steps.Alone.{IsAlone, shape_in}
use Rattle.tile_runs.proofs.Cores.{later_then, release_more}
use Rattle.tile_runs.proofs.alone.release_all.Goals as goal

pub loop-preserved : goal.loop-preserved
loop-preserved c =
    let a = c.args.core.now in
    let b = c.loop.core in
    let d = c.act.new.core in
    let t = c.args.tile in
    let k = c.args.size + c.loop.counter in
    let is = c.loop.invariant in
    let size = c.requires.size in
    let all = c.requires.waiting in
    let less = c.loop-test.true in
    let from : (walk_shape (plan_in a)).size t ≤ k = omega (arith, size) in
    let to : k < (shape_in a).size t = omega (arith, all, less) in
    let next : suc k ≡ c.args.size + (c.loop.counter + 1) = omega arith in record {
      later = later_then a b d is.later c.act.ensures.later;
      alone = subst (λ n. IsAlone (state_in d) (suc t) t (working t n [])) next
          (release_more a b d (seen_of c.act.result) t k is.later from to c.act.ensures.step is.alone);
    }
