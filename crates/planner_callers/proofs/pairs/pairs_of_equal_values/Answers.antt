use Rattle.scop_syntax.proofs.Common.{[]}
use Rattle.planner_callers.proofs.pairs.pairs_of_equal_values.Goals as goal

pub returns-clause-to : goal.returns-clause-to
returns-clause-to c = λ d r x y suits relates. (c.equal_rows_restrict.ensures.to 0 d r [] x y suits relates).1

pub returns-clause-from : goal.returns-clause-from
returns-clause-from c = λ d r x y suits relates equal.
    c.equal_rows_restrict.ensures.from 0 d r [] x y suits relates equal
