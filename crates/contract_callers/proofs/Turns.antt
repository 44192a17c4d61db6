-- The worked dependence from each turn to the next at its points, and what numbers say there.
use Rattle.scop_syntax.proofs.Common.{◌≡◌, refl, subst, arith, ℕ, ℤ, pos, negsuc, List, [], ◌∷◌, ◌++◌, length, ◌+ℤ◌}
use Rattle.scop_syntax.proofs.Common.{◌≤ℤ◌, get_or, ints, All-cons, All-head, All-nil, Affine, form_of, value_of, dot}
use Rattle.integer_sets.specs.Points.{Satisfies}
use Rattle.farkas.specs.Meaning.{IsInstance, phi}
use Rattle.farkas.specs.Unknowns.{bounds_of}
use Rattle.contract_callers.specs.Worked.{end, next_turn}

-- the equality of the dependence
abbrev rises : Affine
rises = form_of (pos 1 ∷ negsuc 0 ∷ pos 0 ∷ []) (pos 1)

-- what holds of the turns of a point, one of which is one more than the other
at_points : (P : List ℤ → List ℤ → List ℤ → Type 0) → ((x n : ℤ) → P (x ∷ []) ((x +ℤ pos 1) ∷ []) (n ∷ []))
    → (x y n : ℤ) → Satisfies next_turn (x ∷ y ∷ n ∷ []) → P (x ∷ []) (y ∷ []) (n ∷ [])
at_points P all x y n inside =
    let zero = All-head (λ f. value_of f (x ∷ y ∷ n ∷ []) ≡ pos 0) rises [] inside.0 in
    let more : x +ℤ pos 1 ≡ y = omega (arith, ints, zero) in subst (λ y. P (x ∷ []) (y ∷ []) (n ∷ [])) more (all x n)

-- no quotient is bound there
without_quotients : (P : List ℤ → List ℤ → List ℤ → Type 0)
    → ((x n : ℤ) → P (x ∷ []) ((x +ℤ pos 1) ∷ []) (n ∷ [])) → (x y n : ℤ) (bound : List ℤ) → length bound ≡ 0
    → Satisfies next_turn (x ∷ y ∷ (bound ++ n ∷ [])) → P (x ∷ []) (y ∷ []) (n ∷ [])
without_quotients P all x y n [] none inside = at_points P all x y n inside
without_quotients P all x y n (q ∷ bound) none inside = absurd cc

-- it holds of each instance
pub at_each : (P : List ℤ → List ℤ → List ℤ → Type 0) → ((x n : ℤ) → P (x ∷ []) ((x +ℤ pos 1) ∷ []) (n ∷ []))
    → (s t : ℕ) (i j p : List ℤ) → IsInstance (end s) (end t) next_turn i j p → P i j p
at_each P all s t (x ∷ []) (y ∷ []) (n ∷ []) is = without_quotients P all x y n is.bound is.quotients is.inside
at_each P all s t [] j p is = absurd (omega (arith, is.source_iterators))
at_each P all s t (x ∷ w ∷ i) j p is = absurd (omega (arith, is.source_iterators))
at_each P all s t (x ∷ []) [] p is = absurd (omega (arith, is.target_iterators))
at_each P all s t (x ∷ []) (y ∷ w ∷ j) p is = absurd (omega (arith, is.target_iterators))
at_each P all s t (x ∷ []) (y ∷ []) [] is = absurd (omega (arith, is.parameters))
at_each P all s t (x ∷ []) (y ∷ []) (n ∷ w ∷ p) is = absurd (omega (arith, is.parameters))

-- an instance at a turn, where there are three
pub instance : (s t : ℕ) (x : ℤ) → IsInstance (end s) (end t) next_turn (x ∷ []) ((x +ℤ pos 1) ∷ []) (pos 4 ∷ [])
instance s t x =
    record {
      source_iterators = refl;
      target_iterators = refl;
      parameters = refl;
      bound = [];
      quotients = refl;
      inside = (
        All-cons (λ f. value_of f (x ∷ (x +ℤ pos 1) ∷ pos 4 ∷ []) ≡ pos 0) rises [] (omega (arith, ints))
            (All-nil (λ f. value_of f (x ∷ (x +ℤ pos 1) ∷ pos 4 ∷ []) ≡ pos 0)),
        All-nil (λ (f : Affine). pos 0 ≤ℤ value_of f (x ∷ (x +ℤ pos 1) ∷ pos 4 ∷ [])),
      );
    }

-- (0, w, 1, 0) says that a turn comes before the next
pub kept : (w x : ℤ) → phi (pos 0 ∷ w ∷ pos 1 ∷ pos 0 ∷ []) 2 1 (x ∷ [])
    ≤ℤ phi (pos 0 ∷ w ∷ pos 1 ∷ pos 0 ∷ []) 2 1 ((x +ℤ pos 1) ∷ [])
kept w x = omega (arith, ints)

-- (0, 1, 1, 0) says that it is one more at most
pub bounded : (x n : ℤ) → phi (pos 0 ∷ pos 1 ∷ pos 1 ∷ pos 0 ∷ []) 2 1 ((x +ℤ pos 1) ∷ [])
    ≤ℤ (phi (pos 0 ∷ pos 1 ∷ pos 1 ∷ pos 0 ∷ []) 2 1 (x ∷ [])
    +ℤ (dot (bounds_of (pos 0 ∷ pos 1 ∷ pos 1 ∷ pos 0 ∷ []) 0 1) (n ∷ [])
    +ℤ get_or (pos 0 ∷ pos 1 ∷ pos 1 ∷ pos 0 ∷ []) 1 (pos 0)))
bounded x n = omega (arith, ints)
