use Rattle.scop_syntax.proofs.Common.{[]}
use Rattle.quast_joins.specs.declared.way.Way.TheVariants.{Earlier, Later}
use Rattle.planner_callers.proofs.covers.points_in_kernels_without_parameters.Goals as goal

pub returns-clause-only : goal.returns-clause-only
returns-clause-only c = λ program reader tree x y has is run point.
    (c.covering_points_are_covers.ensures.told program [] 0 Earlier reader tree x y has is run).0 point

pub returns-clause-all : goal.returns-clause-all
returns-clause-all c = λ program reader tree x y has is run cover.
    (c.covering_points_are_covers.ensures.told program [] 0 Later reader tree x y has is run).1 cover

pub returns-clause-stopped : goal.returns-clause-stopped
returns-clause-stopped c = λ program reader stop x y has run.
    c.covering_points_are_covers.ensures.stopped program [] 0 Earlier reader stop x y has run
