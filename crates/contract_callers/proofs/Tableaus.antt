-- The worked rows are tableaus, and their nodes are nodes.
use Rattle.scop_syntax.proofs.Common.{◌≡◌, refl, arith, ℕ, suc, zero, pos, ◌<◌, ◌≢◌}
use Rattle.tableau_rows.specs.Rows.{entry}
use Rattle.tableau_rows.specs.Moves.{row_at}
use Rattle.tableau_rows.specs.Solutions.{HasColumn, IsTableau}
use Rattle.lexmin_runs.specs.Solutions.{IsNode}
use Rattle.contract_callers.specs.Halves.{begun, first, longer, pivoted, solved}

-- before the pivot the first row gives the column
others_begun : (i : ℕ) → i ≢ 0 → entry (row_at begun 0) i ≡ pos 0
others_begun zero not = absurd (not refl)
others_begun (suc zero) not = refl
others_begun (suc (suc zero)) not = refl
others_begun (suc (suc (suc i))) not = refl

columns_begun : (j : ℕ) → j < 1 → HasColumn j begun
columns_begun zero less = record { place = 0; within = omega arith; is = record { own = refl; others = others_begun } }
columns_begun (suc j) less = absurd (omega (arith, less))

pub tableau_begun : IsTableau 1 1 begun
tableau_begun =
    record { sized = (omega arith, refl, (omega arith, refl, tt)); many = omega arith; columns = columns_begun }

-- behind it the second
others_pivoted : (i : ℕ) → i ≢ 0 → entry (row_at pivoted 1) i ≡ pos 0
others_pivoted zero not = absurd (not refl)
others_pivoted (suc zero) not = refl
others_pivoted (suc (suc zero)) not = refl
others_pivoted (suc (suc (suc i))) not = refl

columns_pivoted : (j : ℕ) → j < 1 → HasColumn j pivoted
columns_pivoted zero less =
    record { place = 1; within = omega arith; is = record { own = refl; others = others_pivoted } }
columns_pivoted (suc j) less = absurd (omega (arith, less))

tableau_pivoted : IsTableau 1 1 pivoted
tableau_pivoted =
    record { sized = (omega arith, refl, (omega arith, refl, tt)); many = omega arith; columns = columns_pivoted }

-- and over one parameter more
others_longer : (i : ℕ) → i ≢ 0 → entry (row_at longer 1) i ≡ pos 0
others_longer zero not = absurd (not refl)
others_longer (suc zero) not = refl
others_longer (suc (suc zero)) not = refl
others_longer (suc (suc (suc zero))) not = refl
others_longer (suc (suc (suc (suc i)))) not = refl

columns_longer : (j : ℕ) → j < 1 → HasColumn j longer
columns_longer zero less =
    record { place = 1; within = omega arith; is = record { own = refl; others = others_longer } }
columns_longer (suc j) less = absurd (omega (arith, less))

pub tableau_longer : IsTableau 1 2 longer
tableau_longer =
    record { sized = (omega arith, refl, (omega arith, refl, tt)); many = omega arith; columns = columns_longer }

-- the first node, and the one behind the pivot
pub first_is : IsNode 1 first
first_is = record { tableau = tableau_begun; speaks = tt; placed = tt; bound = λ p inside. tt }

pub solved_is : IsNode 1 solved
solved_is = record { tableau = tableau_pivoted; speaks = (refl, tt); placed = tt; bound = λ p inside. tt }
