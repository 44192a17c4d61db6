use Rattle.scop_syntax.proofs.Common.{[]}
use Rattle.planner_callers.proofs.runs.least_first_rows_are_unique.Goals as goal

pub returns : goal.returns
returns c = λ m loops r q first second. c.least_rows_are_unique.ensures m loops [] [] r q first second
