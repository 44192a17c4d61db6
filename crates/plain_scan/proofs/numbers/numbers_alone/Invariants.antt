use Rattle.scop_syntax.proofs.Common.{◌≡◌, [], ◌∷◌, ℤ, pos, take, All, ◌≤ℤ◌, None, IfSome}
use Rattle.fractions.specs.Elimination.{coefficient_of}
use Rattle.integer_sets.specs.Points.{Satisfies}
use Rattle.plain_scan.specs.Between.{IsLargeOf}
use Rattle.plain_scan.specs.steps.Numbers.{AreSmall, LiesBetween}
use Rattle.plain_scan.proofs.numbers.numbers_alone.Given as goal

abbrev pub invariant-loop-form : goal.invariant-loop-form
invariant-loop-form l = record {
  between : (x : ℤ) → Satisfies l.alone (x ∷ []) → LiesBetween l.numbers x;
  small : AreSmall l.numbers;
  below : l.numbers.low ≡ None → l.numbers.large ≡ None
      → All (λ f. coefficient_of 0 f ≡ pos 0) (take l.form-index l.form-items);
  above : l.numbers.high ≡ None → l.numbers.large ≡ None
      → All (λ f. coefficient_of 0 f ≡ pos 0) (take l.form-index l.form-items);
  large : IfSome l.numbers.large (IsLargeOf l.alone);
}

abbrev pub invariant-loop-form-2 : goal.invariant-loop-form-2
invariant-loop-form-2 l = record {
  between : (x : ℤ) → Satisfies l.alone (x ∷ []) → LiesBetween l.numbers x;
  small : AreSmall l.numbers;
  below : l.numbers.low ≡ None → l.numbers.large ≡ None
      → All (λ f. coefficient_of 0 f ≡ pos 0) l.alone.equalities
      × All (λ f. coefficient_of 0 f ≤ℤ pos 0) (take l.form-index l.form-items);
  above : l.numbers.high ≡ None → l.numbers.large ≡ None
      → All (λ f. coefficient_of 0 f ≡ pos 0) l.alone.equalities
      × All (λ f. pos 0 ≤ℤ coefficient_of 0 f) (take l.form-index l.form-items);
  large : IfSome l.numbers.large (IsLargeOf l.alone);
}
