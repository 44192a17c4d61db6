use Rattle.planner_callers.proofs.runs.schedules_without_parameters_are_one.Goals as goal

pub returns : goal.returns
returns c = λ loops deps blocks others first second.
    c.dependences_have_one_schedule.ensures 0 loops deps blocks others first second
