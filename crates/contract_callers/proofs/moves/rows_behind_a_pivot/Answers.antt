use Rattle.scop_syntax.proofs.Common.{[], ◌∷◌, ◌≡◌, arith, refl, Ok}
use Rattle.whole_numbers.specs.Content.{gcd_of}
use Rattle.wide_math.specs.Checked.{checked, cross_of}
use Rattle.tableau_rows.specs.Moves.{crossed_run, lowest_row, row_at, row_run, rows_run}
use Rattle.contract_callers.specs.Halves.{begun, pivoted}
use Rattle.contract_callers.proofs.Tableaus.{tableau_begun}
use Rattle.contract_callers.proofs.moves.rows_behind_a_pivot.Goals as goal

-- the pivot on the second row
moved : rows_run 1 0 (row_at begun 1) 0 begun ≡ Ok pivoted
unfolding checked cross_of crossed_run gcd_of lowest_row row_run
moved = refl

pub returns-clause-tableau : goal.returns-clause-tableau
returns-clause-tableau c =
    c.pivots_keep_the_solutions.ensures.tableau 1 1 1 0 begun pivoted tableau_begun (omega arith) (omega arith)
    (omega arith) moved

pub returns-clause-solutions : goal.returns-clause-solutions
returns-clause-solutions c = λ p.
    c.pivots_keep_the_solutions.ensures.solutions 1 1 1 0 begun pivoted tableau_begun (omega arith) (omega arith)
    (omega arith) moved (p ∷ []) refl
