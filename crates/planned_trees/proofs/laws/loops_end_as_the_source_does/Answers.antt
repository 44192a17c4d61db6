use Rattle.scop_syntax.proofs.Common.{[]}
use Rattle.planned_trees.proofs.RunResults.{run_has_visits, run_is_order, run_keeps, run_visits_once}
use Rattle.planned_trees.proofs.TreeRuns.{runs_all}
use Rattle.planned_trees.proofs.laws.loops_end_as_the_source_does.Goals as goal

pub returns-clause-ends : goal.returns-clause-ends
returns-clause-ends c program params plan ts contents run order trees has inside shape may are =
    let once = c.walks_are_in_order.ensures.once program params in
    let carry = trees.carry_out params has in
    c.orders_of_walks_end_as_they_do.ensures program params contents order shape inside
    (run_is_order program params plan ts run order once trees.even carry may are)
    (run_keeps program params plan ts run order once trees.even carry may are)

pub returns-clause-visits : goal.returns-clause-visits
returns-clause-visits c program params plan ts run trees has may =
    run_has_visits program params plan ts run (trees.carry_out params has) may

pub returns-clause-once : goal.returns-clause-once
returns-clause-once c program params plan ts run trees has may =
    run_visits_once program params plan ts run (c.walks_are_in_order.ensures.once program params) trees.even
    (trees.carry_out params has) may

pub returns-clause-walk : goal.returns-clause-walk
returns-clause-walk c ts params = runs_all ts params []
