use Rattle.scop_syntax.proofs.Common.{[]}
use Rattle.planner_callers.proofs.flows.flow_points_in_kernels_without_parameters.Goals as goal

pub returns-clause-only : goal.returns-clause-only
returns-clause-only c = λ program trees x y has are point.
    (c.flow_points_are_the_sources.ensures program [] 0 trees x y has are).0 point

pub returns-clause-all : goal.returns-clause-all
returns-clause-all c = λ program trees x y has are reads.
    (c.flow_points_are_the_sources.ensures program [] 0 trees x y has are).1 reads
