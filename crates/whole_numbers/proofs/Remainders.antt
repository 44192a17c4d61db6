-- Euclid's remainders and floors, of numbers and of lists (`dot_apart`: the cut).
use Rattle.std.proofs.Common.{◌≡◌, ℤ, pos, ◌+ℤ◌, ◌*ℤ◌, ◌<ℤ◌, ◌↔◌, List, [], ◌∷◌, length, ap, refl, arith}
use Rattle.std.proofs.lemmas.Int.{ints}
use Rattle.whole_numbers.specs.Lists.{dot, NotNegative}
use Rattle.whole_numbers.specs.Division.{IsFloor, IsEuclid}
use Rattle.whole_numbers.specs.Divisors.{Divides}
use Rattle.whole_numbers.specs.Floor.{floor, remainder, floors, remainders}
use Rattle.whole_numbers.proofs.Ring.{mul_distrib_left, mul_sub_right, mul_assoc_int, mul_zero_right, mul_comm_int}
use Rattle.whole_numbers.proofs.Floors.{floor_is, floor_unique}
use Rattle.whole_numbers.proofs.Euclid.{euclid_from_floor}
use Rattle.whole_numbers.proofs.Lowest.{exact_floor}

-- the floor and the remainder are Euclid's
pub remainder_is : (a d : ℤ) → pos 0 <ℤ d → IsEuclid a d (floor a d) (remainder a d)
remainder_is a d h = euclid_from_floor a d (floor a d) (floor_is a d h)

-- a multiple of d more adds its factor to the floor
pub floor-shifted : (a d k : ℤ) → pos 0 <ℤ d → floor (a +ℤ (d *ℤ k)) d ≡ floor a d +ℤ k
floor-shifted a d k h =
    let f = floor_is a d h in
    let below = f.below in
    let above = f.above in
    let c = mul_comm_int d k in
    let e = mul_comm_int d (floor a d) in
    let g = mul_comm_int d (floor a d +ℤ k) in
    let s = mul_distrib_left (floor a d) k d in
    let is : IsFloor (a +ℤ (d *ℤ k)) d (floor a d +ℤ k) =
    record { below = omega (arith, ints); above = omega (arith, ints) } in
    floor_unique (a +ℤ (d *ℤ k)) d (floor (a +ℤ (d *ℤ k)) d) (floor a d +ℤ k) h (floor_is (a +ℤ (d *ℤ k)) d h) is

-- and leaves the remainder
pub remainder-shifted : (a d k : ℤ) → pos 0 <ℤ d → remainder (a +ℤ (d *ℤ k)) d ≡ remainder a d
remainder-shifted a d k h =
    let e = ap (λ (q : ℤ). d *ℤ q) (floor-shifted a d k h) in
    let s = mul_distrib_left (floor a d) k d in
    omega (arith, ints)

-- nothing is left exactly where d divides
pub remainder_zero : (a d : ℤ) → pos 0 <ℤ d → (remainder a d ≡ pos 0) ↔ Divides d a
remainder_zero a d h = (
  λ (e : remainder a d ≡ pos 0). record { quotient = floor a d; product = omega (arith, ints) },
  λ (k : Divides d a). let e = exact_floor a d h k in omega (arith, ints),
)

-- remainders are not negative
pub remainders_not_negative : (d : ℤ) (xs : List ℤ) → pos 0 <ℤ d → NotNegative (remainders d xs)
remainders_not_negative d [] h = tt
remainders_not_negative d (x ∷ xs) h =
    let r = (remainder_is x d h).not_negative in (r, remainders_not_negative d xs h)

-- a dot product apart into whole multiples of d and remainders: what a cut rounds
pub dot_apart : (d : ℤ) (xs ys : List ℤ) → dot xs ys ≡ (d *ℤ dot (floors d xs) ys) +ℤ dot (remainders d xs) ys
dot_apart d [] ys = let z = mul_zero_right d in omega (arith, ints)
dot_apart d (x ∷ xs) [] = let z = mul_zero_right d in omega (arith, ints)
dot_apart d (x ∷ xs) (y ∷ ys) =
    let q = floor x d in
    let more = dot_apart d xs ys in
    let s = mul_sub_right x (d *ℤ q) y in
    let t = mul_assoc_int d q y in
    let u = mul_distrib_left (q *ℤ y) (dot (floors d xs) ys) d in
    omega (arith, ints)

pub length-floors : (d : ℤ) (xs : List ℤ) → length (floors d xs) ≡ length xs
length-floors d [] = refl
length-floors d (x ∷ xs) = let more = length-floors d xs in omega arith

pub ruleset remainder_laws = (remainder_is, floor-shifted, remainder-shifted, remainder_zero)

pub ruleset cut_laws = (dot_apart, remainders_not_negative)
