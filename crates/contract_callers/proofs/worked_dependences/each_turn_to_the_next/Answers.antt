use Rattle.scop_syntax.proofs.Common.{[], ◌∷◌, pos, subst, sym, arith, ◌+ℤ◌, ◌≤ℤ◌, get_or, ints, dot}
use Rattle.farkas.specs.Meaning.{phi}
use Rattle.farkas.specs.Unknowns.{bounds_of, layout_of}
use Rattle.contract_callers.proofs.Turns.{at_each, bounded, instance, kept}
use Rattle.contract_callers.proofs.worked_dependences.each_turn_to_the_next.Goals as goal

pub returns-clause-keeps : goal.returns-clause-keeps
unfolding layout_of
returns-clause-keeps c = λ t w only numbers i j p taken is.
    subst (λ numbers. phi numbers 2 1 i ≤ℤ phi numbers 2 1 j) (sym (only numbers taken))
    (at_each (λ i j p. phi (pos 0 ∷ w ∷ pos 1 ∷ pos 0 ∷ []) 2 1 i ≤ℤ phi (pos 0 ∷ w ∷ pos 1 ∷ pos 0 ∷ []) 2 1 j)
    (λ x n. kept w x) 1 1 i j p is)

pub returns-clause-bounds : goal.returns-clause-bounds
unfolding layout_of
returns-clause-bounds c = λ t only numbers i j p taken is.
    subst (λ numbers. phi numbers 2 1 j
    ≤ℤ (phi numbers 2 1 i +ℤ (dot (bounds_of numbers 0 1) p +ℤ get_or numbers 1 (pos 0)))) (sym (only numbers taken))
    (at_each (λ i j p. phi (pos 0 ∷ pos 1 ∷ pos 1 ∷ pos 0 ∷ []) 2 1 j
    ≤ℤ (phi (pos 0 ∷ pos 1 ∷ pos 1 ∷ pos 0 ∷ []) 2 1 i +ℤ
    (dot (bounds_of (pos 0 ∷ pos 1 ∷ pos 1 ∷ pos 0 ∷ []) 0 1) p
    +ℤ get_or (pos 0 ∷ pos 1 ∷ pos 1 ∷ pos 0 ∷ []) 1 (pos 0)))) bounded 1 1 i j p is)

pub returns-clause-unbounded : goal.returns-clause-unbounded
unfolding layout_of
returns-clause-unbounded c = λ t taken bounds.
    let low =
    bounds (pos 0 ∷ pos 0 ∷ pos 1 ∷ pos 0 ∷ []) (pos 1 ∷ []) (pos 2 ∷ []) (pos 4 ∷ []) taken (instance 1 1 (pos 1)) in
    omega (arith, ints, low)
