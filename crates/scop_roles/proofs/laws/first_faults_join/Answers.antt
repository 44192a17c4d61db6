use Rattle.scop_roles.proofs.Firsts.{first-append, first_of-assoc}
use Rattle.scop_roles.proofs.laws.first_faults_join.Goals as goal

pub returns-clause-append : goal.returns-clause-append
returns-clause-append c fs gs = first-append fs gs

pub returns-clause-order : goal.returns-clause-order
returns-clause-order c f g h = first_of-assoc f g h
