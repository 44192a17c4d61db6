use Rattle.quast_joins.specs.declared.way.Way.TheVariants.{Earlier, Later}
use Rattle.dataflow.proofs.covers.push_roles.Goals as goal

pub push_role-requires-clause-conflicts : goal.push_role-requires-clause-conflicts
push_role-requires-clause-conflicts c = c.requires.conflicts Later

pub push_role-requires-2-clause-conflicts : goal.push_role-requires-2-clause-conflicts
push_role-requires-2-clause-conflicts c = c.requires.conflicts Earlier
