use Rattle.whole_numbers.proofs.Common.{◌≡◌, ◌+◌, ℕ, List, [], All, subst, sym, arith, length, All-nil, NotNegative}
use Rattle.whole_numbers.proofs.Common.{Affine}
use Rattle.tableau_rows.specs.Problem.{row_values, problem_of}
use Rattle.quast_trees.specs.Postfix.{tree_of}
use Rattle.quast_trees.specs.Value.{value}
use Rattle.checked_tableau.specs.Leaves.{IsAnswer}
use Rattle.pip_solver.proofs.ProblemRuns.{is_sized}
use Rattle.pip_solver.proofs.LeafPoints.{found-alone, given-least, given-none}
use Rattle.pip_solver.proofs.point.least_point.Goals as goal
use Rattle.pip_solver.proofs.point.least_point.Goals.{Start, In-Ok}

-- the forms over no parameter more
rows : (c : Start) → All (λ f. length f.coefficients ≡ c.args.problem.unknowns + c.args.problem.parameters)
    c.args.problem.rows.items
rows c =
    let flat = c.requires.parameters in
    subst (λ (k : ℕ). All (λ f. length f.coefficients ≡ k) c.args.problem.rows.items) (omega (arith, flat))
    c.requires.rows

context : (c : Start) → All (λ f. length f.coefficients ≡ c.args.problem.parameters) c.args.problem.context.items
context c =
    subst (λ (fs : List Affine). All (λ f. length f.coefficients ≡ c.args.problem.parameters) fs)
    (sym c.requires.context) (All-nil (λ f. length f.coefficients ≡ c.args.problem.parameters))

pub lexmin-requires-clause-rows : goal.lexmin-requires-clause-rows
lexmin-requires-clause-rows c = rows (goal.at.lexmin-requires-clause-rows c).Start

pub lexmin-requires-clause-context : goal.lexmin-requires-clause-context
lexmin-requires-clause-context c = context (goal.at.lexmin-requires-clause-context c).Start

pub point_of-requires : goal.point_of-requires
point_of-requires c =
    let at = (goal.at.point_of-requires c).Start in
    let told = c.in-Ok.ensures.run in
    found-alone c.args.budget told.0 c.args.problem (tree_of c.in-Ok.quast)
    (is_sized c.args.problem (rows at) (context at)) c.requires.parameters told.1

pub returns-clause-run : goal.returns-clause-run
returns-clause-run c =
    let told = c.in-Ok.ensures.run in (tree_of c.in-Ok.quast, told.0, told.1, c.in-Ok-point_of.ensures)

-- the leaf's answer
right : (c : In-Ok) → IsAnswer (problem_of c.args.problem.unknowns c.args.problem.rows.items) []
    (value (tree_of c.in-Ok.quast) [])
right c =
    c.in-Ok.ensures.least [] (sym c.requires.parameters) tt
    (subst (λ (fs : List Affine). NotNegative (row_values fs [])) (sym c.requires.context) tt)

pub returns-clause-least : goal.returns-clause-least
returns-clause-least c =
    given-least (problem_of c.args.problem.unknowns c.args.problem.rows.items) (value (tree_of c.in-Ok.quast) [])
    c.in-Ok-point_of.point c.in-Ok-point_of.ensures (right (goal.at.returns-clause-least c).In-Ok)

pub returns-clause-none : goal.returns-clause-none
returns-clause-none c =
    given-none (problem_of c.args.problem.unknowns c.args.problem.rows.items) (value (tree_of c.in-Ok.quast) [])
    c.in-Ok-point_of.point c.in-Ok-point_of.ensures (right (goal.at.returns-clause-none c).In-Ok)
