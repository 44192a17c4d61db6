use Rattle.scop_syntax.proofs.Common.{◌≡◌, subst}
use Rattle.loop_tree.specs.Tiling.{item_values}
use Rattle.schedule_rows.specs.Items.{values}
use Rattle.tile_skew.specs.Tilings.{statement_items}
use Rattle.planner_callers.proofs.tiles.items_of_the_first_statement.Goals as goal

pub returns : goal.returns
returns c = λ blocks x first. subst (λ k. item_values (statement_items blocks k) x.turns ≡ values blocks x) first
    (c.tilings_have_the_items_of_schedules.ensures blocks x)
