use Rattle.scop_syntax.proofs.Common.{subst, IfOk-weaker}
use Rattle.lexmin_runs.specs.Leaves.{IsAnswer}
use Rattle.quast_trees.specs.Tree.{LeavesHave}
use Rattle.tableau_rows.specs.Problem.{problem_of}
use Rattle.contract_callers.proofs.solver.counted_minimum.Goals as goal

pub returns-clause-least : goal.returns-clause-least
returns-clause-least c = IfOk-weaker c.solve.result _ _
    (λ solution least none. subst
    (IsAnswer (problem_of c.args.problem.unknowns c.args.problem.rows.items) c.args.point.now) none
    (least c.args.point.now c.requires.point c.requires.signs c.requires.inside))
    c.solve.ensures.least

pub returns-clause-forms : goal.returns-clause-forms
returns-clause-forms c = IfOk-weaker c.solve.result _ _
    (λ solution have l is. subst (LeavesHave c.args.problem.unknowns) is have) c.solve.ensures.forms
