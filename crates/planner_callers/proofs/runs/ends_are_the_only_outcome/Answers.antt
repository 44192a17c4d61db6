use Rattle.schedule_rows.specs.Outcomes.{ends}
use Rattle.planner_callers.proofs.runs.ends_are_the_only_outcome.Goals as goal

pub returns : goal.returns
returns c = λ m loops s blocks o end other. c.each_state_has_one_outcome.ensures m loops s (ends blocks) o end other
