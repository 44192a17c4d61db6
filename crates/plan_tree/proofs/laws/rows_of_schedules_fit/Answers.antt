use Rattle.loop_tree.specs.Walk.{visits}
use Rattle.tile_skew.specs.Schedule.{loops_in}
use Rattle.plan_tree.specs.Schedules.{tiling_of}
use Rattle.plan_tree.proofs.Rows.{tiled_rows_fit}
use Rattle.planned_trees.proofs.WalkedVisits.{are_walked}
use Rattle.plan_tree.proofs.laws.rows_of_schedules_fit.Goals as goal

pub returns : goal.returns
returns c program params marked size s run ts is trees has x i =
    tiled_rows_fit program (loops_in s.model) run.blocks x
    (c.schedules_have_small_items.ensures s.model.parameters (loops_in s.model) s.deps run.blocks run.run)
    (are_walked program params (tiling_of program size run.blocks) (visits ts params)
    (record {
      found = c.instances_are_those_of_statements.ensures.found program params;
      turns = c.instances_are_those_of_statements.ensures.turns;
      few = λ p h. (c.statements_are_numbered.ensures.placed program p has.kernel h).few_loops;
      small = λ xs p h r. c.values_lie_within_45_bits.ensures.turns program params xs p has h r;
    }) (trees.carry_out params has).exact x i)
