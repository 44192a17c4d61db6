-- The plan is that of the schedule that is found; where the search stops, the kept order's.
use Rattle.scop_syntax.proofs.Common.{IfOk-weaker, program_of}
use Rattle.plan_search.proofs.PlanLemmas.{unscheduled_is_plan}
use Rattle.plan_search.proofs.SearchLemmas.{program_searched}
use Rattle.plan_search.proofs.planning.plan_over.Goals as goal

pub schedule_plan-requires-clause-program : goal.schedule_plan-requires-clause-program
schedule_plan-requires-clause-program c =
    let (marked, held) = c.requires.held in
    (marked, c.in-Ok.ensures.found.own (program_of c.args.kernel.now) marked c.requires.kernel c.requires.model held)

pub returns-in-Ok : goal.returns-in-Ok
returns-in-Ok c marked held =
    let program = program_of c.args.kernel.now in
    let found = c.in-Ok.ensures.found in
    c.schedule_plan.ensures found.searches.2 c.args.deps.now marked
    (found.own program marked c.requires.kernel c.requires.model held)
    (program_searched c.args.budget c.args.deps.now program c.args.model.now c.in-Ok.schedule c.requires.model found)

pub returns-in-Err : goal.returns-in-Err
returns-in-Err c marked held =
    IfOk-weaker c.kept_plan.result _ _
    (λ p made. unscheduled_is_plan c.args.tile c.args.budget c.args.report c.args.deps.now marked
    (program_of c.args.kernel.now) c.args.model.now c.in-Err.line p c.requires.model c.in-Err.ensures.kept made)
    c.kept_plan.ensures
