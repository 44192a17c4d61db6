use Rattle.schedule_rows.proofs.Times.{times_rise}
use Rattle.schedule_rows.proofs.run_laws.times_rise_along_dependences.Goals as goal

pub returns : goal.returns
returns c m loops deps blocks sized s d params x y i l r later =
    times_rise c.full_rank_leaves_only_0.ensures m loops deps blocks sized s d params x y i l r later
