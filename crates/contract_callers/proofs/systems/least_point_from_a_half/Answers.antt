use Rattle.scop_syntax.proofs.Common.{◌≡◌, ℤ, List, length, pos, [], ◌∷◌, ◌++◌, refl, arith, inl, inr, ◌≤ℤ◌, ints}
use Rattle.scop_syntax.proofs.Common.{All-from_recursion, All-nil, recursion_from_All, Affine, value_of, LexLess}
use Rattle.integer_sets.specs.Points.{IsLeastPoint, Satisfies}
use Rattle.contract_callers.specs.SmallRows.{from_half}
use Rattle.contract_callers.proofs.systems.least_point_from_a_half.Goals as goal

-- no point comes before 2
none : (other : List ℤ) → length other ≡ 1 → Satisfies from_half (other ++ pos 3 ∷ []) → LexLess other (pos 2 ∷ []) → ⊥
none [] size inside less = absurd (omega (arith, size))
none (x ∷ []) size inside (inl less) =
    let least = recursion_from_All (λ f. pos 0 ≤ℤ value_of f (x ∷ pos 3 ∷ [])) from_half.rows inside.1 in
    omega (arith, ints, less, least.0)
none (x ∷ []) size inside (inr same) = same.1
none (x ∷ y ∷ xs) size inside less = absurd (omega (arith, size))

least : IsLeastPoint from_half (pos 3 ∷ []) (pos 2 ∷ [])
least =
    record {
      size = refl;
      inside = (
        All-nil (λ (f : Affine). value_of f (pos 2 ∷ pos 3 ∷ []) ≡ pos 0),
        All-from_recursion (λ f. pos 0 ≤ℤ value_of f (pos 2 ∷ pos 3 ∷ [])) from_half.rows (omega (arith, ints), tt),
      );
      least = none;
    }

pub returns : goal.returns
returns c = λ q is. c.least_point_is_unique.ensures from_half (pos 3 ∷ []) q (pos 2 ∷ []) is least
