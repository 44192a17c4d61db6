use Rattle.scop_syntax.proofs.Common.{Ok, Err}
use Rattle.pluto_search.specs.declared.kept.Kept.TheVariants.{NoRow}
use Rattle.planner_callers.proofs.runs.schedules_that_searches_find.Goals as goal

pub returns-clause-found : goal.returns-clause-found
returns-clause-found c = λ model deps budget s t first second.
    c.searches_answer_once.ensures model deps budget (Ok s) (Ok t) first second tt tt

pub returns-clause-kept : goal.returns-clause-kept
returns-clause-kept c = λ model deps budget s posed first second.
    c.searches_answer_once.ensures model deps budget (Ok s) (Err (NoRow posed)) first second tt tt
