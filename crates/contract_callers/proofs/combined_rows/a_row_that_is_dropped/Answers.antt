use Rattle.scop_syntax.proofs.Common.{◌≡◌, ℤ, List, length, pos, negsuc, [], ◌∷◌, arith, ◌≤ℤ◌, ints, All-from_recursion}
use Rattle.scop_syntax.proofs.Common.{All-take, recursion_from_All, Affine, form_of}
use Rattle.fractions.specs.Farkas.{AreNotNegative}
use Rattle.fractions.specs.Fractions.{HoldsOver, value_over}
use Rattle.contract_callers.specs.SmallRows.{second}
use Rattle.contract_callers.proofs.combined_rows.a_row_that_is_dropped.Goals as goal

-- x = 2 y
abbrev equal : Affine
equal = form_of (pos 1 ∷ negsuc 1 ∷ []) (pos 0)

abbrev kept : List Affine
kept = second ∷ form_of (pos 1 ∷ negsuc 0 ∷ []) (pos 0) ∷ []

abbrev rows : List Affine
rows = second ∷ form_of (pos 1 ∷ negsuc 0 ∷ []) (pos 0) ∷ form_of (pos 2 ∷ negsuc 0 ∷ []) (pos 0) ∷ []

-- those that are kept imply the other where nothing is negative
implied : (e : ℤ) (point : List ℤ) → length point ≡ 2 → AreNotNegative point → HoldsOver (equal ∷ []) kept e point
    → HoldsOver (equal ∷ []) rows e point
implied e [] size positive holds = absurd (omega (arith, size))
implied e (x ∷ []) size positive holds = absurd (omega (arith, size))
implied e (x ∷ y ∷ []) size positive holds =
    let parts = recursion_from_All (λ x. pos 0 ≤ℤ x) (x ∷ y ∷ []) positive in
    let least = recursion_from_All (λ f. pos 0 ≤ℤ value_over f e (x ∷ y ∷ [])) kept holds.1 in (
      holds.0,
      All-from_recursion (λ f. pos 0 ≤ℤ value_over f e (x ∷ y ∷ [])) rows
          (least.0, (least.1.0, (omega (arith, ints, parts.0, least.1.0), tt))),
    )
implied e (x ∷ y ∷ z ∷ xs) size positive holds = absurd (omega (arith, size))

pub returns : goal.returns
returns c = λ d x.
    c.dropping_rows_keeps_the_projection.ensures 1 (equal ∷ []) rows kept d (pos x ∷ [])
    (All-from_recursion (λ x. pos 0 ≤ℤ x) (pos x ∷ []) (omega (arith, ints), tt))
    (λ e point holds. (holds.0, All-take (λ f. pos 0 ≤ℤ value_over f e point) 2 rows holds.1))
    (λ e point holds. All-take (λ f. pos 0 ≤ℤ value_over f e point) 1 kept holds.1) implied
