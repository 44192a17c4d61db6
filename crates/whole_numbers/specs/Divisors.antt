-- Divisibility of whole numbers, and the greatest common divisor by what it divides.
use Rattle.std.specs.Prelude.{◌≡◌, ℤ, pos, ◌*ℤ◌, ◌≤ℤ◌}

-- d divides a: a is a whole multiple of d
pub record Divides (d a : ℤ) : Type 0 where
  pub quotient : ℤ
  pub product : a ≡ d *ℤ quotient

-- g is the common divisor of a and b, not negative, that every common divisor divides; 0 for 0 and 0
pub record IsGreatestCommonDivisor (a b g : ℤ) : Type 0 where
  pub not_negative : pos 0 ≤ℤ g
  pub left : Divides g a
  pub right : Divides g b
  pub greatest : (d : ℤ) → Divides d a → Divides d b → Divides d g
