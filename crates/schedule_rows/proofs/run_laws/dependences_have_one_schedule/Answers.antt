use Rattle.schedule_rows.proofs.OneSchedule.{one_schedule}
use Rattle.schedule_rows.proofs.run_laws.dependences_have_one_schedule.Goals as goal

pub returns : goal.returns
returns c m loops deps bs cs a b = one_schedule c.each_state_has_one_outcome.ensures m loops deps bs cs a b
