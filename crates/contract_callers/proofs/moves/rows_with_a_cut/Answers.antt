use Rattle.scop_syntax.proofs.Common.{[], ◌∷◌, ◌≡◌, arith, refl, pos, ℤ, Ok, Some, ints, IsFloor}
use Rattle.whole_numbers.specs.Content.{gcd_of}
use Rattle.tableau_rows.specs.Moves.{cut_run, lowest_row, row_at}
use Rattle.tableau_rows.specs.Solutions.{IsTied}
use Rattle.wide_math.specs.Checked.{checked}
use Rattle.contract_callers.specs.Halves.{longer, new_row}
use Rattle.contract_callers.proofs.Tableaus.{tableau_longer}
use Rattle.contract_callers.proofs.moves.rows_with_a_cut.Goals as goal

-- the cut on the first row, tied to the second parameter
made : cut_run 1 (Some 3) (row_at longer 0) ≡ Ok new_row
unfolding checked cut_run gcd_of lowest_row
made = refl

-- at a half it is tied
tied : (p q : ℤ) → IsFloor p (pos 2) q → IsTied 1 (Some 3) (row_at longer 0) (p ∷ q ∷ [])
tied p q half [] one = absurd (omega (arith, one))
tied p q half (y ∷ []) one =
    record { below = omega (arith, ints, half.below); above = omega (arith, ints, half.above) }
tied p q half (y ∷ z ∷ ys) one = absurd (omega (arith, one))

pub returns-clause-tableau : goal.returns-clause-tableau
returns-clause-tableau c =
    c.cuts_keep_the_solutions.ensures.tableau 1 2 0 (Some 3) longer new_row tableau_longer (omega arith) made

pub returns-clause-solutions : goal.returns-clause-solutions
returns-clause-solutions c = λ p q half.
    c.cuts_keep_the_solutions.ensures.solutions 1 2 0 (Some 3) longer new_row tableau_longer (omega arith)
    (omega arith) made (p ∷ q ∷ []) refl (tied p q half)
