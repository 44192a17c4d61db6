use Rattle.quast_trees.proofs.MappedTrees.{map_run-speaks, map_run-value}
use Rattle.quast_trees.proofs.laws.maps_keep_the_points.Goals as goal

pub returns-clause-speaks : goal.returns-clause-speaks
returns-clause-speaks c = map_run-speaks

pub returns-clause-value : goal.returns-clause-value
returns-clause-value c = λ forms n t u speaks run point fits. map_run-value forms t u point (rw fits speaks) run
