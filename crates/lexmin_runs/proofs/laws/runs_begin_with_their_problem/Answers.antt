use Rattle.lexmin_runs.proofs.KeptSolutions.{first_is_node, first_node_solutions}
use Rattle.lexmin_runs.proofs.laws.runs_begin_with_their_problem.Goals as goal

pub returns : goal.returns
returns c = record { node = first_is_node; solutions = first_node_solutions }
