use Rattle.plan_tree.proofs.FlowSchedules.{apart_schedule, flow_plan}
use Rattle.plan_tree.proofs.laws.flow_schedules_have_flow_trees.Goals as goal

pub returns-clause-schedule : goal.returns-clause-schedule
returns-clause-schedule c program s is = apart_schedule c.accesses_have_the_ranks_of_arrays.ensures program s is

pub returns-clause-trees : goal.returns-clause-trees
returns-clause-trees c program marked size s run ts some is trees = record {
  apart = marked;
  trees = trees;
  flow = flow_plan c.tiled_flows_are_flow_plans.ensures program size s run some is;
}
