use Rattle.quast_joins.proofs.Steps.{join_run, paired_nodes, paired_depths, depths_found}
use Rattle.quast_joins.proofs.laws.joins_are_built.Goals as goal

pub returns-clause-run : goal.returns-clause-run
returns-clause-run c = join_run

pub returns-clause-nodes : goal.returns-clause-nodes
returns-clause-nodes c = paired_nodes

pub returns-clause-depths : goal.returns-clause-depths
returns-clause-depths c = paired_depths

pub returns-clause-found : goal.returns-clause-found
returns-clause-found c = depths_found
