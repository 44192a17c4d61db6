use Rattle.scop_syntax.proofs.Common.{refl}
use Rattle.contract_callers.specs.Halves.{doubled, five}
use Rattle.contract_callers.proofs.minimum_runs.the_first_node_of_halves.Goals as goal

pub returns-clause-node : goal.returns-clause-node
returns-clause-node c =
    c.runs_begin_with_their_problem.ensures.node 1 1 doubled five (refl, tt) (refl, (refl, tt))

pub returns-clause-solutions : goal.returns-clause-solutions
returns-clause-solutions c = λ p x.
    c.runs_begin_with_their_problem.ensures.solutions 1 1 doubled five (refl, tt) p x
