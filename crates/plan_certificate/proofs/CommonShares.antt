-- What is left of two numbers over their greatest common divisor.
use Rattle.scop_syntax.proofs.Common.{ℕ, ◌≤◌, ◌/◌, subst, arith, inl, inr}
use Prim.Native.Nat.{◌∣◌}
use Rattle.std.proofs.Math.Nat.{eq-zero_of_zero-dvd, eq-zero-or-pos}
use Rattle.std.proofs.lemmas.Nat.{le-div}
use Rattle.std.proofs.lemmas.Nat.Gcd.{le_of_dvd}
use Rattle.whole_numbers.specs.Content.{gcd_of}
use Rattle.whole_numbers.proofs.Contents.{gcd_of_is}

share : (g b : ℕ) → g ∣ b → 1 ≤ b → 1 ≤ b / g
share g b d h = elim (eq-zero-or-pos g) [
  | inl e ↦
      let none = eq-zero_of_zero-dvd (subst (λ k. k ∣ b) e d) in
      absurd (omega (arith, none, h))
  | inr some ↦
      let most : g ≤ b = le_of_dvd (omega (arith, h)) d in
      le-div 1 b g some (omega (arith, most))
]

-- both are at least 1 where the numbers are
pub share_positive : (a b : ℕ) → 1 ≤ a → 1 ≤ b → (1 ≤ a / gcd_of a b) × (1 ≤ b / gcd_of a b)
share_positive a b one two =
    let d = gcd_of_is a b in (share (gcd_of a b) a d.0 one, share (gcd_of a b) b d.1 two)
