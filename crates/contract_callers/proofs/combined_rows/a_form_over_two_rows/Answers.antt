use Rattle.scop_syntax.proofs.Common.{◌≡◌, ℕ, zero, suc, List, pos, negsuc, [], ◌∷◌, ◌++◌, refl, arith, ◌*ℤ◌, ◌≤ℤ◌}
use Rattle.scop_syntax.proofs.Common.{ints, All-from_recursion, Affine, form_of}
use Rattle.fractions.specs.Elimination.{coefficient_of}
use Rattle.fractions.specs.Farkas.{HasFarkas, combination, two_rows}
use Rattle.fractions.specs.Fractions.{value_over}
use Rattle.contract_callers.specs.SmallRows.{second}
use Rattle.contract_callers.proofs.combined_rows.a_form_over_two_rows.Goals as goal

-- 1 <= 2 x
abbrev half : Affine
half = form_of (pos 2 ∷ pos 0 ∷ []) (negsuc 0)

-- and x <= y
abbrev rows : List Affine
rows = half ∷ form_of (negsuc 0 ∷ pos 1 ∷ []) (pos 0) ∷ []

-- 2 y = 1 + (2 x - 1) + 2 (y - x)
farkas : HasFarkas rows second
farkas =
    record {
      factor = pos 2;
      free = pos 1;
      multipliers = pos 1 ∷ pos 2 ∷ [];
      positive = omega (arith, ints);
      size = refl;
      not_negative = All-from_recursion (λ x. pos 0 ≤ℤ x) (pos 1 ∷ pos 1 ∷ pos 2 ∷ [])
          (omega (arith, ints), (omega (arith, ints), (omega (arith, ints), tt)));
      linear = linear;
      constant = refl;
    }
  where
    linear : (i : ℕ) → pos 2 *ℤ coefficient_of i second
        ≡ coefficient_of i (combination (pos 1 ∷ pos 2 ∷ []) rows)
    linear zero = refl
    linear (suc zero) = refl
    linear (suc (suc i)) = refl

-- x = y
abbrev equal : Affine
equal = form_of (pos 1 ∷ negsuc 0 ∷ []) (pos 0)

-- 2 y = 1 - 2 (x - y) + (2 x - 1)
farkas_of_system : HasFarkas (two_rows (equal ∷ []) ++ half ∷ []) second
farkas_of_system =
    record {
      factor = pos 2;
      free = pos 1;
      multipliers = pos 0 ∷ pos 2 ∷ pos 1 ∷ [];
      positive = omega (arith, ints);
      size = refl;
      not_negative = All-from_recursion (λ x. pos 0 ≤ℤ x) (pos 1 ∷ pos 0 ∷ pos 2 ∷ pos 1 ∷ [])
          (omega (arith, ints), (omega (arith, ints), (omega (arith, ints), (omega (arith, ints), tt))));
      linear = linear;
      constant = refl;
    }
  where
    linear : (i : ℕ) → pos 2 *ℤ coefficient_of i second
        ≡ coefficient_of i (combination (pos 0 ∷ pos 2 ∷ pos 1 ∷ []) (two_rows (equal ∷ []) ++ half ∷ []))
    linear zero = refl
    linear (suc zero) = refl
    linear (suc (suc i)) = refl

pub returns-clause-rows : goal.returns-clause-rows
returns-clause-rows c =
    c.farkas_makes_a_form_not_negative.ensures rows second (pos 2) (pos 1 ∷ pos 1 ∷ []) farkas
    (omega (arith, ints))
    (All-from_recursion (λ g. pos 0 ≤ℤ value_over g (pos 2) (pos 1 ∷ pos 1 ∷ [])) rows
    (omega (arith, ints), (omega (arith, ints), tt)))

pub returns-clause-system : goal.returns-clause-system
returns-clause-system c =
    c.farkas_makes_a_form_not_negative_on_a_system.ensures (equal ∷ []) (half ∷ []) second (pos 4)
    (pos 2 ∷ pos 2 ∷ []) farkas_of_system (omega (arith, ints)) (
      All-from_recursion (λ f. value_over f (pos 4) (pos 2 ∷ pos 2 ∷ []) ≡ pos 0) (equal ∷ []) (refl, tt),
      All-from_recursion (λ f. pos 0 ≤ℤ value_over f (pos 4) (pos 2 ∷ pos 2 ∷ [])) (half ∷ [])
          (omega (arith, ints), tt),
    )
