-- Quotients towards 0 and remainders with the number's sign, against floors and ceilings.
use Rattle.whole_numbers.proofs.Common.{suc, ◌/◌, ◌%◌, ◌<◌, ℤ, pos, negsuc, ◌+ℤ◌, ◌-ℤ◌, ◌≤ℤ◌, ◌<ℤ◌, int_div, int_rem}
use Rattle.whole_numbers.proofs.Common.{◌≡◌, arith, ints, IsFloor, IsCeiling, floor, remainder, remainder_is}
use Rattle.whole_numbers.proofs.Common.{mul_distrib_right, mul_sub_right, mul_neg_left, mul_comm_int}
use Rattle.std.proofs.Common.{div-le_self}
use Rattle.std.proofs.Math.Nat.{mod-lt}
use Rattle.std.proofs.lemmas.Nat.{div-add-mod'}
use Rattle.std.proofs.lemmas.Int.{quot-rem, rem_below}
use Rattle.whole_numbers.specs.Division.{IsEuclid}
use Rattle.whole_numbers.proofs.Euclid.{euclid_unique}

-- of a number that is not negative the quotient that drops the fraction is the floor, between 0 and the number
pub int_div-floor : (a d : ℤ) → pos 0 ≤ℤ a → pos 0 <ℤ d
    → IsFloor a d (int_div a d) × (pos 0 ≤ℤ int_div a d) × (int_div a d ≤ℤ a)
int_div-floor (pos n) (pos d) h k =
    let whole = div-add-mod' n d in
    let rest : n % d < d = mod-lt n (omega (arith, ints)) in
    let least = div-le_self n d in
    (record { below = omega (arith, ints); above = omega (arith, ints) }, omega (arith, ints), omega (arith, ints))
int_div-floor (negsuc n) d h k = absurd (omega (arith, ints))
int_div-floor a (negsuc d) h k = absurd (omega (arith, ints))

-- of a number that is not positive it is the ceiling, between the number and 0
pub int_div-ceiling : (a d : ℤ) → a ≤ℤ pos 0 → pos 0 <ℤ d
    → IsCeiling a d (int_div a d) × (a ≤ℤ int_div a d) × (int_div a d ≤ℤ pos 0)
int_div-ceiling (negsuc n) (pos d) h k =
    let whole = div-add-mod' (suc n) d in
    let rest : suc n % d < d = mod-lt (suc n) (omega (arith, ints)) in
    let least = div-le_self (suc n) d in
    let s = mul_neg_left (pos (suc n / d)) (pos d) in
    (record { above = omega (arith, ints); below = omega (arith, ints) }, omega (arith, ints), omega (arith, ints))
int_div-ceiling (pos n) (pos d) h k =
    let whole = div-add-mod' n d in
    let rest : n % d < d = mod-lt n (omega (arith, ints)) in
    let least = div-le_self n d in
    (record { above = omega (arith, ints); below = omega (arith, ints) }, omega (arith, ints), omega (arith, ints))
int_div-ceiling a (negsuc d) h k = absurd (omega (arith, ints))

-- the ceiling is one more than the floor of the number below
pub ceiling_from_floor_below : (a d q : ℤ) → IsFloor (a -ℤ pos 1) d q → IsCeiling a d (q +ℤ pos 1)
ceiling_from_floor_below a d q f =
    let s = mul_distrib_right q (pos 1) d in record { above = omega (arith, ints); below = omega (arith, ints) }

-- the floor is one less than the ceiling of the number above
pub floor_from_ceiling_above : (a d q : ℤ) → IsCeiling (a +ℤ pos 1) d q → IsFloor a d (q -ℤ pos 1)
floor_from_ceiling_above a d q c =
    let s = mul_sub_right q (pos 1) d in record { below = omega (arith, ints); above = omega (arith, ints) }

-- a remainder with the dividend's sign is Euclid's where it is not negative
pub rem_not_negative : (a d : ℤ) → pos 0 <ℤ d → pos 0 ≤ℤ int_rem a d → int_rem a d ≡ remainder a d
rem_not_negative a d h k =
    let q = int_div a d in
    let parts = quot-rem a d in
    let c = mul_comm_int d q in
    let small = rem_below a d (omega (arith, ints)) in
    let is : IsEuclid a d q (int_rem a d) =
    record { parts = omega (arith, ints); not_negative = k; below = omega (arith, ints, small) } in
    (euclid_unique a d q (int_rem a d) (floor a d) (remainder a d) is (remainder_is a d h)).1

-- and one divisor short of it where it is negative
pub rem_negative : (a d : ℤ) → pos 0 <ℤ d → int_rem a d <ℤ pos 0 → int_rem a d +ℤ d ≡ remainder a d
rem_negative a d h k =
    let q = int_div a d in
    let r = int_rem a d in
    let parts = quot-rem a d in
    let c = mul_comm_int d (q -ℤ pos 1) in
    let s = mul_sub_right q (pos 1) d in
    let small = rem_below a d (omega (arith, ints)) in
    let is : IsEuclid a d (q -ℤ pos 1) (r +ℤ d) =
    record {
      parts = omega (arith, ints);
      not_negative = omega (arith, ints, small);
      below =
          omega (arith, ints);
    } in
    (euclid_unique a d (q -ℤ pos 1) (r +ℤ d) (floor a d) (remainder a d) is (remainder_is a d h)).1
