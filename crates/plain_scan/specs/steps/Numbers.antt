-- Numbers between which the points of a system of one variable lie.
use Rattle.std.specs.Prelude.{◌≡◌, ℤ, ◌≤◌, ◌^◌, ◌≤ℤ◌, [], ◌∷◌, Option, Some, None, ⊤, IfSome, unsigned_abs}
use Rattle.integer_sets.specs.Constraints.{Constraints}
use Rattle.integer_sets.specs.Points.{Satisfies}
use Rattle.plain_scan.specs.declared.numbers.Numbers.{Numbers}
use Rattle.plain_scan.specs.Between.{IsLargeOf, IsOpenBelow, IsOpenAbove}

-- x is at least the number, if there is one
abbrev pub IsAtLeast : Option ℤ → ℤ → Type 0
IsAtLeast None x = ⊤
IsAtLeast (Some z) x = z ≤ℤ x

-- x is at most the number, if there is one
abbrev pub IsAtMost : Option ℤ → ℤ → Type 0
IsAtMost None x = ⊤
IsAtMost (Some z) x = x ≤ℤ z

-- x lies between the two numbers
abbrev pub LiesBetween : Numbers → ℤ → Type 0
LiesBetween n x = IsAtLeast n.low x × IsAtMost n.high x

-- the number lies within 2^40, if there is one
abbrev pub IsSmallIf : Option ℤ → Type 0
IsSmallIf None = ⊤
IsSmallIf (Some z) = unsigned_abs z ≤ 2 ^ 40

-- both numbers do
abbrev pub AreSmall : Numbers → Type 0
AreSmall n = IsSmallIf n.low × IsSmallIf n.high

-- the numbers of a system of one variable: its points lie between them, and where one is missing and no number beyond
-- 2^40 stood in the way, no constraint bounds the variable from that side
pub record AreNumbersOf (t : Constraints) (n : Numbers) : Type 0 where
  pub between : (x : ℤ) → Satisfies t (x ∷ []) → LiesBetween n x
  pub small : AreSmall n
  pub below : n.low ≡ None → n.large ≡ None → IsOpenBelow t
  pub above : n.high ≡ None → n.large ≡ None → IsOpenAbove t
  pub large : IfSome n.large (IsLargeOf t)
