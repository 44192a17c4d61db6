-- A number lies between its absolute value and that value's negative; the absolute value of a sum.
use Rattle.std.proofs.Common.{ℕ, ◌+◌, ◌≤◌, ℤ, pos, negsuc, arith, ◌+ℤ◌, ◌≤ℤ◌, neg_ℤ, unsigned_abs}
use Rattle.std.proofs.lemmas.Int.{ints}

pub abs_low : (z : ℤ) → neg_ℤ (pos (unsigned_abs z)) ≤ℤ z
abs_low (pos n) = omega (arith, ints)
abs_low (negsuc n) = omega (arith, ints)

pub abs_high : (z : ℤ) → z ≤ℤ pos (unsigned_abs z)
abs_high (pos n) = omega (arith, ints)
abs_high (negsuc n) = omega (arith, ints)

pub abs_at_most : (z : ℤ) (n : ℕ) → neg_ℤ (pos n) ≤ℤ z → z ≤ℤ pos n → unsigned_abs z ≤ n
abs_at_most (pos m) n low high = omega (arith, ints)
abs_at_most (negsuc m) n low high = omega (arith, ints)

pub abs_sum : (a b : ℤ) → unsigned_abs (a +ℤ b) ≤ unsigned_abs a + unsigned_abs b
abs_sum a b =
    let al = abs_low a in
    let ah = abs_high a in
    let bl = abs_low b in
    let bh = abs_high b in
    abs_at_most (a +ℤ b) (unsigned_abs a + unsigned_abs b) (omega (arith, ints)) (omega (arith, ints))
