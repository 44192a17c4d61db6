use Rattle.schedule_rows.proofs.Determinism.{least_unique}
use Rattle.schedule_rows.proofs.run_laws.least_rows_are_unique.Goals as goal

pub returns : goal.returns
returns c m loops deps before r q h k = least_unique m loops deps before r q h k
