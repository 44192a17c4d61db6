use Rattle.scop_syntax.proofs.Common.{pos, arith, refl}
use Rattle.lexmin_runs.specs.Nodes.{binds, goes, splits, with_rows}
use Rattle.contract_callers.specs.Halves.{above, at_zero, bound, first, given, opposite, pivoted, solved}
use Rattle.contract_callers.proofs.NodeSteps.{binds_one, cuts, halves, parts, pivots}
use Rattle.contract_callers.proofs.Tableaus.{first_is, solved_is}
use Rattle.contract_callers.proofs.minimum_runs.nodes_of_halves.Goals as goal

pub returns-clause-nodes : goal.returns-clause-nodes
returns-clause-nodes c =
    c.steps_keep_the_solutions.ensures.nodes 1 2 first (splits opposite at_zero above) 0 first_is parts

pub returns-clause-solutions : goal.returns-clause-solutions
returns-clause-solutions c =
    c.steps_keep_the_solutions.ensures.solutions 1 3 solved (binds given (pos 2) bound) 0 solved_is binds_one

pub returns-clause-pivot : goal.returns-clause-pivot
returns-clause-pivot c =
    c.steps_keep_the_solutions.ensures.pivot 1 1 first 1 (goes (with_rows first pivoted)) 0 first_is (omega arith)
    pivots

pub returns-clause-cut : goal.returns-clause-cut
returns-clause-cut c =
    c.steps_keep_the_solutions.ensures.cut 1 1 solved 0 (binds given (pos 2) bound) 0 solved_is (omega arith) cuts

pub returns-clause-split : goal.returns-clause-split
returns-clause-split c =
    c.steps_keep_the_solutions.ensures.split 1 1 first opposite (splits opposite at_zero above) 0 first_is refl
    halves
