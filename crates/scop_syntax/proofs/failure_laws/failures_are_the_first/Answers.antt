use Rattle.scop_syntax.proofs.Failures.{first_visit, none_inside}
use Rattle.scop_syntax.proofs.failure_laws.failures_are_the_first.Goals as goal

pub returns-clause-inside : goal.returns-clause-inside
returns-clause-inside c = none_inside

pub returns-clause-first : goal.returns-clause-first
returns-clause-first c = first_visit
