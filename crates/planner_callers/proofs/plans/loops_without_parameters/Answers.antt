use Rattle.scop_syntax.proofs.Common.{[]}
use Rattle.planner_callers.proofs.plans.loops_without_parameters.Goals as goal

pub returns-clause-ends : goal.returns-clause-ends
returns-clause-ends c = λ program plan ts contents run order.
    c.loops_end_as_the_source_does.ensures.ends program [] plan ts contents run order

pub returns-clause-visits : goal.returns-clause-visits
returns-clause-visits c = λ program plan ts run. c.loops_end_as_the_source_does.ensures.visits program [] plan ts run

pub returns-clause-once : goal.returns-clause-once
returns-clause-once c = λ program plan ts run. c.loops_end_as_the_source_does.ensures.once program [] plan ts run

pub returns-clause-walk : goal.returns-clause-walk
returns-clause-walk c = λ ts. c.loops_end_as_the_source_does.ensures.walk ts []
