-- The worked dependence that binds a quotient, at its points.
use Rattle.scop_syntax.proofs.Common.{◌≡◌, refl, arith, ℕ, ℤ, pos, negsuc, List, [], ◌∷◌, ◌++◌, length, All, ◌+◌, ◌+ℤ◌}
use Rattle.scop_syntax.proofs.Common.{◌≤ℤ◌, ints, All-cons, All-head, All-nil, Affine, form_of, value_of, IsInRange}
use Rattle.iteration_domains.specs.Related.{Relates}
use Rattle.contract_callers.specs.Worked.{every_other_turn, turn}

-- the equalities
abbrev halves : Affine
halves = form_of (pos 1 ∷ pos 0 ∷ negsuc 1 ∷ []) (negsuc 1)

abbrev rises : Affine
rises = form_of (pos 1 ∷ negsuc 0 ∷ pos 0 ∷ []) (pos 1)

-- each quotient from 0 on gives a pair
pub pair : (q : ℕ) → Relates [] every_other_turn (turn (pos (2 + (q + q)))) (turn (pos (3 + (q + q))))
pair q =
    let x : ℤ = pos (2 + (q + q)) in
    let y : ℤ = pos (3 + (q + q)) in
    let Zero = λ (f : Affine). value_of f (x ∷ y ∷ pos q ∷ []) ≡ pos 0 in
    let Least = λ (z : ℤ). pos 0 ≤ℤ z in
    record {
      range = All-nil IsInRange;
      source = refl;
      target = refl;
      source_size = refl;
      target_size = refl;
      source_from_0 = All-cons Least x [] (omega (arith, ints)) (All-nil Least);
      target_from_0 = All-cons Least y [] (omega (arith, ints)) (All-nil Least);
      bound = pos q ∷ [];
      bound_size = refl;
      bound_from_0 = All-cons Least (pos q) [] (omega (arith, ints)) (All-nil Least);
      equalities = All-cons Zero halves (rises ∷ []) (omega (arith, ints))
          (All-cons Zero rises [] (omega (arith, ints)) (All-nil Zero));
      rows = All-nil (λ (f : Affine). pos 0 ≤ℤ value_of f (x ∷ y ∷ pos q ∷ []));
    }

-- and each pair has one
abbrev HasHalf : ℤ → Type 0
HasHalf x = (q : ℤ) × (pos 0 ≤ℤ q) × (x ≡ (q +ℤ q) +ℤ pos 2)

half : (x y : ℤ) (bound : List ℤ) → length bound ≡ 1 → All (λ z. pos 0 ≤ℤ z) bound
    → All (λ f. value_of f (x ∷ y ∷ (bound ++ [])) ≡ pos 0) (halves ∷ rises ∷ []) → HasHalf x
half x y [] size from_0 zero = absurd cc
half x y (q ∷ []) size from_0 zero =
    let e = All-head (λ f. value_of f (x ∷ y ∷ q ∷ []) ≡ pos 0) halves (rises ∷ []) zero in
    (q, All-head (λ z. pos 0 ≤ℤ z) q [] from_0, omega (arith, ints, e))
half x y (q ∷ r ∷ bound) size from_0 zero = absurd (omega (arith, size))

pub half_of : (x y : ℤ) → Relates [] every_other_turn (turn x) (turn y) → HasHalf x
half_of x y h = half x y h.bound h.bound_size h.bound_from_0 h.equalities
