use Rattle.scop_syntax.proofs.Common.{rules, ◌+◌, ◌<◌, map}
use Rattle.tile_core.specs.Plans.{shape_of}
use Rattle.tile_core.specs.Workers.{worker_of}
use Rattle.tile_core.proofs.Gates.{tiles_are}
use Rattle.tile_core.proofs.States.{opening_run}
use Rattle.tile_core.proofs.cores.Core.of.Goals as goal

pub returns-clause-core : goal.returns-clause-core
returns-clause-core c =
    let tiles = tiles_are c.args.plan.now in
    let few : (shape_of c.args.plan.now).tiles + c.args.workers < 18446744073709551615 = search rules in
    record {
      planned = c.requires.plan;
      workers = search rules;
      opening = c.args.cells.now.items;
      run = opening_run c.all_interleavings_agree.ensures.start c.args.plan.now c.args.cells.now.items
          c.replace-row.result.items c.args.workers (map worker_of c.in_ok-all.all.items)
          (c.plans_are_good.ensures.good c.args.plan.now c.args.cells.now.items c.requires.plan)
          (c.plans_are_good.ensures.dealt c.args.plan.now c.args.cells.now.items c.requires.plan)
          c.requires.cells c.requires.rest few (search rules) (search rules);
    }

pub returns-clause-run : goal.returns-clause-run
returns-clause-run c =
    let tiles = tiles_are c.args.plan.now in
    let few : (shape_of c.args.plan.now).tiles + c.args.workers < 18446744073709551615 = search rules in
    opening_run c.all_interleavings_agree.ensures.start c.args.plan.now c.args.cells.now.items
    c.replace-row.result.items c.args.workers (map worker_of c.in_ok-all.all.items)
    (c.plans_are_good.ensures.good c.args.plan.now c.args.cells.now.items c.requires.plan)
    (c.plans_are_good.ensures.dealt c.args.plan.now c.args.cells.now.items c.requires.plan)
    c.requires.cells c.requires.rest few (search rules) (search rules)
