use Rattle.text_callers.proofs.quasts.a_worked_schedule.Goals as goal

pub returns : goal.returns
returns c = c.a_schedule_and_its_text.ensures
