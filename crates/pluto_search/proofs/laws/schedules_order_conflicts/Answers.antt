use Rattle.scop_syntax.proofs.Common.{[], arith, conflict_cell, instance, walk_of}
use Rattle.iteration_domains.specs.Model.{model_of}
use Rattle.schedule_rows.specs.Outcomes.{state}
use Rattle.schedule_rows.specs.Schedule.{loops_in}
use Rattle.schedule_rows.proofs.CoverPlans.{conflict_along}
use Rattle.schedule_rows.proofs.Times.{runs_full}
use Rattle.pluto_search.proofs.ValueOrder.{places_turned, values_rise}
use Rattle.pluto_search.proofs.laws.schedules_order_conflicts.Goals as goal

pub returns : goal.returns
returns c program marked deps blocks params i j p free count sized holds schedule =
    let m = (model_of program).parameters in
    let loops = loops_in (model_of program) in
    let closure = c.conflicts_are_chains_of_covers.ensures.closure (walk_of program params) in
    let turned = places_turned program params marked loops deps (conflict_cell p) sized holds free i j (closure i j p)
    p.earlier p.later p.is_earlier p.is_later in
    let full = runs_full m loops (state [] [] schedule.taken) schedule.states blocks schedule.runs in
    values_rise c.full_rank_leaves_only_0.ensures loops blocks (instance p.earlier) (instance p.later) full turned.0
    turned.1 (conflict_along program params marked m loops deps blocks closure count sized schedule holds i j p free)
    (λ same turns.
    let at = c.walks_are_in_order.ensures.once program params i j p.earlier p.later p.is_earlier p.is_later same turns
    in
    let less = p.order in
    absurd (omega arith))
