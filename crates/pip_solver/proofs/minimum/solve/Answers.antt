use Rattle.whole_numbers.proofs.Common.{◌≡◌, ◌∙◌, List, refl, subst, ap, sym, arith, Ok, Err}
use Rattle.quast_trees.specs.Tree.{Tree, LeavesHave}
use Rattle.quast_trees.specs.Postfix.{standing, top}
use Rattle.quast_trees.specs.Value.{value}
use Rattle.tableau_rows.specs.Problem.{problem_of}
use Rattle.checked_tableau.specs.Leaves.{IsAnswer}
use Rattle.checked_tableau.specs.Nodes.{Counted, whole}
use Rattle.pip_solver.specs.Node.{node_of}
use Rattle.pip_solver.specs.steps.Frames.{Runs}
use Rattle.checked_tableau.proofs.Trees.{lexmin-right}
use Rattle.checked_tableau.proofs.KeptSolutions.{lexmin-forms}
use Rattle.pip_solver.specs.steps.Promises.{Tells}
use Rattle.pip_solver.specs.Solving.{solved}
use Rattle.pip_solver.specs.declared.question.QuestionStop.{QuestionStop}
use Rattle.pip_solver.proofs.ProblemRuns.{is_sized, first_ready, first_run, tree_speaks}
use Rattle.pip_solver.proofs.minimum.solve.Goals as goal
use Rattle.pip_solver.proofs.minimum.solve.Goals.{In-Ok-run, After-run}

pub run-requires-clause-ready : goal.run-requires-clause-ready
run-requires-clause-ready c =
    first_ready c.args.problem c.in-Ok.node (is_sized c.args.problem c.requires.rows c.requires.context)
    c.in-Ok.ensures.node c.in-Ok.ensures.going

-- the run's tree
ran : (c : In-Ok-run) → solved c.args.budget c.args.problem ≡ Ok (top (standing c.run.new.builder), c.run.new.left)
ran c =
    let told = c.in-Ok-run.ensures.run in
    sym (first_run c.args.budget c.args.problem c.in-Ok.node c.in-Ok.ensures.node c.in-Ok.ensures.going) ∙ told.2
    ∙ ap (λ (t : Tree). Ok (t, c.run.new.left)) (sym (ap (λ (ts : List Tree). top ts) told.1))

pub finish-requires-clause-speaks : goal.finish-requires-clause-speaks
finish-requires-clause-speaks c =
    tree_speaks c.args.budget c.run.new.left c.args.problem (top (standing c.run.new.builder))
    (is_sized c.args.problem c.requires.rows c.requires.context) (ran c)

pub returns-in-Ok-run-clause-run : goal.returns-in-Ok-run-clause-run
returns-in-Ok-run-clause-run c =
    let at = (goal.at.returns-in-Ok-run-clause-run c).In-Ok-run in
    let less = c.run.ensures.less in (
      c.run.new.left,
      ran at ∙ ap (λ (t : Tree). Ok (t, c.run.new.left)) (sym c.finish.ensures.tree),
      omega
          (arith, less),
      c.finish.ensures.parameters,
    )

pub returns-in-Ok-run-clause-least : goal.returns-in-Ok-run-clause-least
returns-in-Ok-run-clause-least c p size not inside =
    let at = (goal.at.returns-in-Ok-run-clause-least c).In-Ok-run in
    let x = c.args.problem in
    let sized = is_sized x c.requires.rows c.requires.context in
    subst (λ (t : Tree). IsAnswer (problem_of x.unknowns x.rows.items) p (value t p)) (sym c.finish.ensures.tree)
    (lexmin-right c.args.budget x.unknowns x.parameters x.rows.items x.context.items (top (standing c.run.new.builder))
    c.run.new.left sized.rows sized.context (ran at) p size not inside)

pub returns-in-Ok-run-clause-forms : goal.returns-in-Ok-run-clause-forms
returns-in-Ok-run-clause-forms c =
    let at = (goal.at.returns-in-Ok-run-clause-forms c).In-Ok-run in
    let x = c.args.problem in
    let sized = is_sized x c.requires.rows c.requires.context in
    subst (λ (t : Tree). LeavesHave x.unknowns t) (sym c.finish.ensures.tree)
    (lexmin-forms c.args.budget x.unknowns x.parameters x.rows.items x.context.items (top (standing c.run.new.builder))
    c.run.new.left sized.rows sized.context (ran at))

-- where the run stops, so does the problem's
stopped : (c : After-run) (stop : QuestionStop) → c.run.result ≡ Err stop
    → Tells {A = Tree} (Err stop) c.run.new.left (solved c.args.budget c.args.problem)
stopped c stop is =
    subst (λ (q : Counted Tree). Tells {A = Tree} (Err stop) c.run.new.left q)
    (first_run c.args.budget c.args.problem c.in-Ok.node c.in-Ok.ensures.node c.in-Ok.ensures.going)
    (subst (λ r. Runs (whole c.in-Ok.node.rows.unknowns c.args.budget (node_of c.in-Ok.node))
    (standing c.run.new.builder) c.run.new.left r) is c.run.ensures.run)

pub returns-in-Err-Wide-clause-run : goal.returns-in-Err-Wide-clause-run
returns-in-Err-Wide-clause-run c =
    let told = stopped (goal.at.returns-in-Err-Wide-clause-run c).After-run _
    (c.in-Err-Wide.is ∙ ap (λ s. Err s) c.in-Err-Wide.field-0-is) in
    let less = c.run.ensures.less in
    (told.0, c.run.new.left, told.1, omega (arith, less), refl)

pub returns-in-Err-Spent-clause-run : goal.returns-in-Err-Spent-clause-run
returns-in-Err-Spent-clause-run c =
    let told = stopped (goal.at.returns-in-Err-Spent-clause-run c).After-run _
    (c.in-Err-Spent.is ∙ ap (λ s. Err s) c.in-Err-Spent.field-0-is) in
    (told.0, refl, refl)
