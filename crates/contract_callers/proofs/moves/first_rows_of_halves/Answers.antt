use Rattle.scop_syntax.proofs.Common.{[], ◌∷◌, refl}
use Rattle.contract_callers.specs.Halves.{doubled}
use Rattle.contract_callers.proofs.moves.first_rows_of_halves.Goals as goal

pub returns-clause-tableau : goal.returns-clause-tableau
returns-clause-tableau c = c.tableaus_begin_with_their_problem.ensures.tableau 1 1 doubled (refl, tt)

pub returns-clause-solutions : goal.returns-clause-solutions
returns-clause-solutions c = λ p x.
    c.tableaus_begin_with_their_problem.ensures.solutions 1 1 doubled (refl, tt) (p ∷ []) x refl
