use Rattle.scop_syntax.proofs.Common.{[]}
use Rattle.planner_callers.proofs.posed_sets.rows_without_statements.Goals as goal

pub returns-clause-numbers : goal.returns-clause-numbers
returns-clause-numbers c = λ m xs size. c.numbers_are_rows.ensures.numbers m [] xs size

pub returns-clause-shape : goal.returns-clause-shape
returns-clause-shape c = λ m xs size. (c.numbers_are_rows.ensures.shape m [] xs size).bounds
