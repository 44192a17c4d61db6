use Rattle.whole_numbers.proofs.Common.{◌++◌, Bool, subst, sym}
use Rattle.tableau_rows.specs.Run.{run}
use Rattle.checked_tableau.specs.Nodes.{Counted, answered}
use Rattle.checked_tableau.specs.Table.{Table}
use Rattle.pip_solver.specs.steps.Promises.{Tells}
use Rattle.pip_solver.proofs.Questions.{ask-is}
use Rattle.pip_solver.proofs.asking.ask.Goals as goal

pub returns-clause-run : goal.returns-clause-run
returns-clause-run c =
    subst (λ (q : Counted Bool). Tells c.question.result c.question.new.left q)
    (sym (ask-is c.args.left.now c.args.unknowns (c.args.forms.now ++ c.args.more.now)))
    (subst (λ (t : Table). Tells c.question.result c.question.new.left
    (answered (run t.unknowns c.args.left.now t.rows))) c.in-Ok.ensures.rows c.question.ensures.run)
