use Rattle.scop_syntax.proofs.Common.{◌≡◌, List, pos, negsuc, [], ◌∷◌, ◌++◌, refl, arith, ◌≤ℤ◌, ints}
use Rattle.scop_syntax.proofs.Common.{All-from_recursion, recursion_from_All, Affine, complement, form_of}
use Rattle.fractions.specs.Farkas.{HasNoPoint, IsHomogeneous}
use Rattle.fractions.specs.Fractions.{value_over}
use Rattle.contract_callers.proofs.combined_rows.a_row_between_two_others.Goals as goal

-- y = 2 z
abbrev equal : Affine
equal = form_of (pos 0 ∷ pos 1 ∷ negsuc 1 ∷ []) (pos 0)

-- y <= x
abbrev front : Affine
front = form_of (pos 1 ∷ negsuc 0 ∷ pos 0 ∷ []) (pos 0)

-- 2 z <= x
abbrev row : Affine
row = form_of (pos 1 ∷ pos 0 ∷ negsuc 1 ∷ []) (pos 0)

-- 0 <= z
abbrev back : Affine
back = form_of (pos 0 ∷ pos 0 ∷ pos 1 ∷ []) (pos 0)

abbrev others : List Affine
others = front ∷ back ∷ []

-- with the complement of the row between them the others have no point
none : HasNoPoint 3 (equal ∷ []) (others ++ complement row ∷ [])
none [] size positive holds = absurd (omega (arith, size))
none (x ∷ []) size positive holds = absurd (omega (arith, size))
none (x ∷ y ∷ []) size positive holds = absurd (omega (arith, size))
none (x ∷ y ∷ z ∷ []) size positive holds =
    let zero = recursion_from_All (λ f. value_over f (pos 1) (x ∷ y ∷ z ∷ []) ≡ pos 0) (equal ∷ []) holds.0 in
    let least =
    recursion_from_All (λ f. pos 0 ≤ℤ value_over f (pos 1) (x ∷ y ∷ z ∷ [])) (others ++ complement row ∷ []) holds.1 in
    omega (arith, ints, zero.0, least.0, least.1.1.0)
none (x ∷ y ∷ z ∷ w ∷ xs) size positive holds = absurd (omega (arith, size))

pub returns : goal.returns
returns c =
    c.implied_rows_hold_over_fractions.ensures (equal ∷ []) (front ∷ []) row (back ∷ []) (pos 2)
    (pos 3 ∷ pos 2 ∷ pos 1 ∷ [])
    (All-from_recursion IsHomogeneous (equal ∷ []) (refl, tt))
    (All-from_recursion IsHomogeneous others (refl, (refl, tt))) refl none
    (All-from_recursion (λ x. pos 0 ≤ℤ x) (pos 3 ∷ pos 2 ∷ pos 1 ∷ [])
    (omega (arith, ints), (omega (arith, ints), (omega (arith, ints), tt)))) (
      All-from_recursion (λ f. value_over f (pos 2) (pos 3 ∷ pos 2 ∷ pos 1 ∷ []) ≡ pos 0) (equal ∷ []) (refl, tt),
      All-from_recursion (λ f. pos 0 ≤ℤ value_over f (pos 2) (pos 3 ∷ pos 2 ∷ pos 1 ∷ [])) others
          (omega (arith, ints), (omega (arith, ints), tt)),
    )
