use Rattle.scop_syntax.proofs.Common.{[], ◌∷◌, falling_by_two, falling}
use Rattle.contract_callers.proofs.walks.numbers_of_cells.Goals as goal

pub returns-clause-below : goal.returns-clause-below
returns-clause-below c = c.cells_have_numbers_of_their_own.ensures.below ((2 ∷ 3 ∷ []) ∷ (4 ∷ []) ∷ [])

pub returns-clause-apart : goal.returns-clause-apart
returns-clause-apart c = c.cells_have_numbers_of_their_own.ensures.apart ((2 ∷ 3 ∷ []) ∷ (4 ∷ []) ∷ [])

pub returns-clause-numbers : goal.returns-clause-numbers
returns-clause-numbers c = λ cell is. c.cells_lie_within_22_bits.ensures.numbers falling_by_two [] cell falling is
