use Rattle.whole_numbers.proofs.Common.{◌≡◌, Bool, true, false, subst, Result, Ok, IfOk}
use Rattle.integer_sets.specs.Constraints.{IsSized, variables_in}
use Rattle.checked_tableau.proofs.Emptiness.{empty-true, empty-false}
use Rattle.pip_solver.specs.Promises.{Empties}
use Rattle.pip_solver.specs.declared.stop.Stop.TheVariants as solver
use Rattle.pip_solver.proofs.emptiness.is_empty.Goals as goal
use Rattle.pip_solver.proofs.emptiness.is_empty.Goals.{After-answer}

-- what is told of an answer
told : (c : After-answer) (empty : Bool) → c.answer.result ≡ Ok empty
    → Empties (Ok empty) c.args.budget c.args.system.now
    × IsSized (variables_in c.args.system.now) c.args.system.now.equalities c.args.system.now.rows
told c empty h =
    let s = c.args.system.now in (
      subst (λ (r : Result Bool solver.the_data). Empties r c.args.budget s) h c.answer.ensures.run,
      subst (λ (r : Result Bool solver.the_data). IfOk r (λ _. IsSized (variables_in s) s.equalities s.rows)) h
          c.answer.ensures.sized,
    )

pub returns-clause-empty : goal.returns-clause-empty
returns-clause-empty c h x p is =
    let run = told (goal.at.returns-clause-empty c).After-answer true h in
    empty-true c.args.budget c.args.system.now run.0.0 run.1 run.0.1 x p is

pub returns-clause-point : goal.returns-clause-point
returns-clause-point c h =
    let run = told (goal.at.returns-clause-point c).After-answer false h in
    empty-false c.args.budget c.args.system.now run.0.0 run.1 run.0.1
