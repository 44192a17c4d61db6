use Rattle.scop_syntax.proofs.ReducedArrays.{marks_are_reduced, marks_hold, marks_in_order}
use Rattle.scop_syntax.proofs.reduction_laws.marks_are_the_reduced_arrays.Goals as goal

pub returns-clause-reduced : goal.returns-clause-reduced
returns-clause-reduced c = marks_are_reduced

pub returns-clause-rise : goal.returns-clause-rise
returns-clause-rise c = marks_in_order

pub returns-clause-walk : goal.returns-clause-walk
returns-clause-walk c =
    λ program params. marks_hold program params (c.instances_are_those_of_statements.ensures.found program params)
