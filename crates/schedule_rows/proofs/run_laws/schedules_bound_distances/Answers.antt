use Rattle.schedule_rows.proofs.RowBounds.{schedule_bounds}
use Rattle.schedule_rows.proofs.run_laws.schedules_bound_distances.Goals as goal

pub returns : goal.returns
returns c m loops deps before rows behind sized s r d params x y i j size relates same =
    schedule_bounds m loops deps before rows behind sized s r d params x y i j size relates same
