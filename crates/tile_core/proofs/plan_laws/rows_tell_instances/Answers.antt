use Rattle.tile_table.proofs.Visits.{WalkLaws}
use Rattle.tile_core.specs.Plans.{extents_in, program_in}
use Rattle.tile_core.proofs.Rows.{row_tells, row_within}
use Rattle.tile_core.proofs.plan_laws.rows_tell_instances.Goals as goal
use Rattle.tile_core.proofs.plan_laws.rows_tell_instances.Goals.{After-cells_lie_within_22_bits}

laws : After-cells_lie_within_22_bits → WalkLaws
laws c = record {
  found = c.instances_are_those_of_statements.ensures.found;
  turns = c.instances_are_those_of_statements.ensures.turns;
  number = c.statements_are_numbered.ensures.number;
}

pub returns-clause-there : goal.returns-clause-there
returns-clause-there c plan x is walked =
    row_within (laws (goal.at.returns-clause-there c).After-cells_lie_within_22_bits) plan x is walked

pub returns-clause-tells : goal.returns-clause-tells
returns-clause-tells c plan x row is walked told =
    row_tells (laws (goal.at.returns-clause-tells c).After-cells_lie_within_22_bits) plan x is
    c.cells_lie_within_22_bits.ensures.numbers (c.walks_are_in_order.ensures.once (program_in plan) plan.params.now)
    c.statements_are_numbered.ensures.placed (c.cells_have_numbers_of_their_own.ensures.below (extents_in plan)) walked row
    told
