-- Euclid's division by a positive number: there is one quotient and one remainder.
use Rattle.std.proofs.Common.{◌≡◌, ℤ, pos, ◌-ℤ◌, ◌*ℤ◌, ◌<ℤ◌, arith, ap}
use Rattle.std.proofs.lemmas.Int.{ints}
use Rattle.whole_numbers.specs.Division.{IsFloor, IsEuclid}
use Rattle.whole_numbers.specs.Floor.{floor}
use Rattle.whole_numbers.proofs.Floors.{floor_is, floor_unique}

-- the floor is the quotient, and what it leaves is the remainder
pub euclid_from_floor : (a d q : ℤ) → IsFloor a d q → IsEuclid a d q (a -ℤ (d *ℤ q))
euclid_from_floor a d q f =
    record { parts = omega (arith, ints); not_negative = omega (arith, ints); below = omega (arith, ints) }

-- the quotient is the floor
pub floor_from_euclid : (a d q r : ℤ) → IsEuclid a d q r → IsFloor a d q
floor_from_euclid a d q r e = record { below = omega (arith, ints); above = omega (arith, ints) }

-- each a has a quotient and a remainder by a positive d
pub euclid_exists : (a d : ℤ) → pos 0 <ℤ d → (q : ℤ) × (r : ℤ) × IsEuclid a d q r
euclid_exists a d h = (floor a d, a -ℤ (d *ℤ floor a d), euclid_from_floor a d (floor a d) (floor_is a d h))

-- and no other
pub euclid_unique : (a d q r p s : ℤ) → IsEuclid a d q r → IsEuclid a d p s → (q ≡ p) × (r ≡ s)
euclid_unique a d q r p s e f =
    let same = floor_unique a d q p (omega (arith, ints)) (floor_from_euclid a d q r e)
    (floor_from_euclid a d p s f) in
    let products = ap (λ (k : ℤ). d *ℤ k) same in
    (same, omega (arith, ints))

pub ruleset euclid_laws = (floor_from_euclid)
