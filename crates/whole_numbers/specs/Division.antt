-- Division of whole numbers by a positive one, as relations: floor, ceiling, Euclid's quotient and remainder.
use Rattle.std.specs.Prelude.{◌≡◌, ℤ, pos, ◌+ℤ◌, ◌*ℤ◌, ◌≤ℤ◌, ◌<ℤ◌}

-- q is the greatest whole number that is not above a / d, for 0 < d
pub record IsFloor (a d q : ℤ) : Type 0 where
  pub below : (q *ℤ d) ≤ℤ a
  pub above : a <ℤ ((q *ℤ d) +ℤ d)

-- q is the least whole number that is not below a / d, for 0 < d
pub record IsCeiling (a d q : ℤ) : Type 0 where
  pub above : a ≤ℤ (q *ℤ d)
  pub below : (q *ℤ d) <ℤ (a +ℤ d)

-- q and r are the quotient and the remainder of Euclid's division of a by d, for 0 < d
pub record IsEuclid (a d q r : ℤ) : Type 0 where
  pub parts : a ≡ (d *ℤ q) +ℤ r
  pub not_negative : pos 0 ≤ℤ r
  pub below : r <ℤ d
