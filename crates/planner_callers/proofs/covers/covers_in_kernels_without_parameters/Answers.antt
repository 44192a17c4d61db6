use Rattle.scop_syntax.proofs.Common.{[]}
use Rattle.planner_callers.proofs.covers.covers_in_kernels_without_parameters.Goals as goal

pub returns : goal.returns
returns c = λ program marked cell v w has first second cover free.
    c.covers_are_held.ensures program [] 0 marked has 0 1 cell v w first second cover free
