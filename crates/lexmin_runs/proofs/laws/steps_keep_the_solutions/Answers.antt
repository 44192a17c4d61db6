use Rattle.lexmin_runs.proofs.KeptSolutions.{step_nodes, step_solutions, pivot_keeps, cut_keeps, split_keeps}
use Rattle.lexmin_runs.proofs.laws.steps_keep_the_solutions.Goals as goal

pub returns : goal.returns
returns c = record {
  nodes = step_nodes;
  solutions = step_solutions;
  pivot = pivot_keeps;
  cut = cut_keeps;
  split = split_keeps;
}
