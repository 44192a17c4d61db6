use Rattle.scop_syntax.proofs.Common.{[], ◌∷◌}
use Rattle.schedule_rows.specs.Items.{scalar}
use Rattle.planner_callers.proofs.schedules.scalars_of_no_statement.Goals as goal

pub returns : goal.returns
returns c = λ deps numbers is. (c.schedules_have_small_items.ensures 0 [] deps (scalar numbers ∷ []) is).0
