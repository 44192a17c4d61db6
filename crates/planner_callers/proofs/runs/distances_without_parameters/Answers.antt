use Rattle.scop_syntax.proofs.Common.{[], refl}
use Rattle.planner_callers.proofs.runs.distances_without_parameters.Goals as goal

pub returns : goal.returns
returns c = λ loops deps before rows behind r d x y sized schedule own among relates same.
    c.schedules_bound_distances.ensures 0 loops deps before rows behind sized schedule r d [] x y own among refl
    relates same
