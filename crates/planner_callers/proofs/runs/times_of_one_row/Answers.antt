use Rattle.scop_syntax.proofs.Common.{◌∷◌, [], refl}
use Rattle.schedule_rows.specs.Items.{band}
use Rattle.planner_callers.proofs.runs.times_of_one_row.Goals as goal

pub returns : goal.returns
returns c = λ loops deps r d x y sized schedule among relates less.
    c.times_rise_along_dependences.ensures 0 loops deps (band (r ∷ []) ∷ []) sized schedule d [] x y among refl relates
    less
