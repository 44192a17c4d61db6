-- -7 by 3: Euclid's quotient and remainder, rounded down, and rounded up.
use Rattle.scop_syntax.proofs.Common.{arith, pos, negsuc, ints, IsCeiling, IsFloor}
use Rattle.whole_numbers.specs.Division.{IsEuclid}

-- the quotient is -3, the remainder 2
pub divided : IsEuclid (negsuc 6) (pos 3) (negsuc 2) (pos 2)
divided = record { parts = omega (arith, ints); not_negative = omega (arith, ints); below = omega (arith, ints) }

-- -3 rounded down
pub down : IsFloor (negsuc 6) (pos 3) (negsuc 2)
down = record { below = omega (arith, ints); above = omega (arith, ints) }

-- -2 rounded up
pub up : IsCeiling (negsuc 6) (pos 3) (negsuc 1)
up = record { above = omega (arith, ints); below = omega (arith, ints) }
