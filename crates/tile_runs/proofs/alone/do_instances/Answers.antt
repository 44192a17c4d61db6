use Rattle.scop_syntax.proofs.Common.{◌<◌, arith, subst}
use Rattle.tile_core.specs.Acts.{DoesStretch}
use Rattle.tile_core.specs.Cores.{plan_in, state_in}
use Rattle.tile_core.specs.Plans.{walk_shape}
use Rattle.tile_runs.specs.steps.Alone.{shape_in}
use Rattle.tile_runs.proofs.Cores.{alone_more, later_then, some_more}
use Rattle.tile_runs.proofs.alone.do_instances.Goals as goal
use Rattle.tile_runs.proofs.alone.do_instances.Goals.{After-do_stretch-done}

left : (c : After-do_stretch-done) → c.loop-done.done < (walk_shape (plan_in c.args.core.now)).size c.args.tile
left c = subst (λ n. c.loop-done.done < n) c.requires.size c.loop-done-test.true

does : (c : After-do_stretch-done)
    → DoesStretch (walk_shape (plan_in c.args.core.now)) (shape_in c.args.core.now) (state_in c.loop-done.core) 0 c.args.tile c.loop-done.done
    c.do_stretch-done.result (state_in c.do_stretch-done.new.self)
does c =
    let i = c.loop-done.invariant in
    some_more c.args.core.now c.loop-done.core c.do_stretch-done.new.self c.args.tile c.loop-done.done
    c.do_stretch-done.result i.later (left c) i.alone c.do_stretch-done.ensures.stretch

pub loop-done-smaller : goal.loop-done-smaller
loop-done-smaller c =
    let all = does (goal.at.loop-done-smaller c).After-do_stretch-done in
    let more = all.some in
    let less = c.loop-done-test.true in
    omega (arith, more, less)

pub loop-done-preserved : goal.loop-done-preserved
loop-done-preserved c =
    let i = c.loop-done.invariant in
    let e = c.do_stretch-done.ensures in
    let here = (goal.at.loop-done-preserved c).After-do_stretch-done in
    let all = does here in
    let within = all.within in
    let size = c.requires.size in record {
      later = later_then c.args.core.now c.loop-done.core c.do_stretch-done.new.self i.later (record {
        core = e.core;
        plan = e.plan;
        workers = e.workers;
        run = e.run;
      });
      alone = alone_more c.args.core.now c.loop-done.core c.do_stretch-done.new.self c.args.tile c.loop-done.done
          c.do_stretch-done.result i.later (left here) i.alone e.stretch;
      most = omega (arith, within, size);
    }
