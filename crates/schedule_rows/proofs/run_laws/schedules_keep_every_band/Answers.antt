use Rattle.schedule_rows.proofs.RunInvariants.{schedule_along}
use Rattle.schedule_rows.proofs.run_laws.schedules_keep_every_band.Goals as goal

pub returns : goal.returns
returns c m loops deps blocks sized s d params x y i size r =
    schedule_along m loops deps blocks sized s d params x y i size r
