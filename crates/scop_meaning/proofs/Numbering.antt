-- How many values are read; the numbers of cells among those of all arrays.
use Rattle.scop_syntax.proofs.Common.{◌≡◌, ℕ, zero, suc, ◌+◌, ◌<◌, ◌≤◌, List, [], ◌∷◌, length, take, get_or, ap, ◌∙◌}
use Rattle.scop_syntax.proofs.Common.{arith, refl, Access, Right, assigned, combined, moved_left, moved_right}
use Rattle.scop_syntax.proofs.Common.{combined_narrow, moved_left_narrow, reads_with, cell_count, total_cells}
use Rattle.scop_meaning.specs.Instances.{AreLayout, values_wanted}
use Rattle.scop_meaning.specs.steps.Conditions.{AreExtents}

-- a statement reads as many values as its right side wants
pub reads_wanted : (place : Access) (right : Right) → length (reads_with place right) ≡ values_wanted right
reads_wanted place (assigned e) = refl
reads_wanted place (combined op e) = refl
reads_wanted place (moved_left k) = refl
reads_wanted place (moved_right k) = refl
reads_wanted place (combined_narrow op e) = refl
reads_wanted place (moved_left_narrow k) = refl

-- the cells of one more array
total_next : (es : List (List ℕ)) (i : ℕ) → i < length es
    → total_cells (take (suc i) es) ≡ total_cells (take i es) + cell_count (get_or es i [])
total_next [] i h = absurd (omega arith)
total_next (e ∷ es) zero h = omega arith
total_next (e ∷ es) (suc i) h = let r = total_next es i (omega arith) in omega arith

pub total_step : (es : List (List ℕ)) (i : ℕ) → i < length es
    → total_cells (take (i + 1) es) ≡ total_cells (take i es) + cell_count (get_or es i [])
total_step es i h =
    let n : i + 1 ≡ suc i = omega arith in ap (λ k. total_cells (take k es)) n ∙ total_next es i h

pub total_front : (es : List (List ℕ)) (i : ℕ) → total_cells (take i es) ≤ total_cells es
total_front [] zero = omega arith
total_front [] (suc i) = omega arith
total_front (e ∷ es) zero = omega arith
total_front (e ∷ es) (suc i) = let r = total_front es i in omega arith

pub extents_at : (es : List (List ℕ)) (i : ℕ) → AreLayout es → i < length es → AreExtents (get_or es i [])
extents_at es i c h =
    let s = total_step es i h in
    let f = total_front es (i + 1) in
    let t = c.total in
    record { sizes = c.sizes i [] h; count = omega arith }
