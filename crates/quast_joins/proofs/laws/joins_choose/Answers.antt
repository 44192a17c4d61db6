use Rattle.quast_joins.proofs.Values.{join-value}
use Rattle.quast_joins.proofs.Variables.{join-speaks}
use Rattle.quast_joins.proofs.laws.joins_choose.Goals as goal

pub returns-clause-value : goal.returns-clause-value
returns-clause-value c = join-value

pub returns-clause-speaks : goal.returns-clause-speaks
returns-clause-speaks c = join-speaks
