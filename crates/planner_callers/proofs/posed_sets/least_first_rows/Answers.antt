use Rattle.scop_syntax.proofs.Common.{[]}
use Rattle.planner_callers.proofs.posed_sets.least_first_rows.Goals as goal

pub returns-clause-least : goal.returns-clause-least
returns-clause-least c = λ m loops s xs has least.
    (c.least_points_are_least_rows.ensures.least m loops [] [] s xs has least).posed

pub returns-clause-none : goal.returns-clause-none
returns-clause-none c = λ m loops s has none. c.least_points_are_least_rows.ensures.none m loops [] [] s has none
