use Rattle.scop_syntax.proofs.Common.{[]}
use Rattle.planner_callers.proofs.pairs.distances_of_bounded_rows.Goals as goal

pub returns : goal.returns
returns c = λ d r x y suits bounded relates. c.farkas_rows_bound_distances.ensures d r [] x y suits bounded relates
