use Rattle.schedule_rows.proofs.Outcomes.{determined}
use Rattle.schedule_rows.proofs.run_laws.each_state_has_one_outcome.Goals as goal

pub returns : goal.returns
returns c m loops s o q h k = determined c.numberings_are_unique.ensures m loops s o q h k
