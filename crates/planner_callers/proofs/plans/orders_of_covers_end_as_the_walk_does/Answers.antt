use Rattle.scop_syntax.proofs.Common.{[], walk_of}
use Rattle.planner_callers.proofs.plans.orders_of_covers_end_as_the_walk_does.Goals as goal

pub returns : goal.returns
returns c = λ program contents order shaped inside is keeps.
    c.orders_of_walks_end_as_they_do.ensures program [] contents order shaped inside is
    (c.orders_that_keep_covers_keep_conflicts.ensures (walk_of program []) order is.once keeps)
