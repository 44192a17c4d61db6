-- The plan is that of the schedule's tiles, or the kept order's.
use Rattle.scop_syntax.proofs.Common.{IfOk-weaker, program_of}
use Rattle.loop_tree.specs.TilingView.{tiling_of}
use Rattle.loop_tree.specs.View.{trees_in}
use Rattle.plan_search.proofs.PlanLemmas.{stopped_is_plan, tiled_is_plan}
use Rattle.plan_search.proofs.planning.schedule_plan.Goals as goal

pub returns-in-Ok : goal.returns-in-Ok
returns-in-Ok c s deps marked own found =
    let program = program_of c.args.kernel.now in
    IfOk-weaker c.tiled_plan.result _ _
    (λ p made. tiled_is_plan c.rows_of_schedules_fit.ensures c.args.tile c.args.budget c.args.report deps
    marked program c.args.schedule.now s (trees_in c.in-Ok.tree) (tiling_of c.in-Ok.tiling) p c.requires.tile.0 own
    found (c.in-Ok.ensures.tree program marked own s) (c.in-Ok.ensures.tiling s) made)
    c.tiled_plan.ensures

pub returns-in-Err : goal.returns-in-Err
returns-in-Err c s deps marked own found =
    IfOk-weaker c.kept_plan.result _ _
    (λ p made. stopped_is_plan c.args.tile c.args.budget c.args.report deps marked (program_of c.args.kernel.now)
    c.args.schedule.now s c.in-Err.stop c.line_of-line.result p own found (c.in-Err.ensures.stops s)
    c.line_of-line.ensures made)
    c.kept_plan.ensures
