-- Divisors, and the greatest common divisor of two numbers.
use Rattle.std.proofs.Common.{zero, suc, ◌%◌, ◌<◌, ◌≤◌, ◌≡◌, ℕ, ◌*◌, ◌/◌, ℤ, pos, negsuc, ◌+ℤ◌, ◌*ℤ◌, neg_ℤ}
use Rattle.std.proofs.Common.{unsigned_abs, ◌≤ℤ◌, ◌<ℤ◌, ap, sym, ◌∙◌, subst, refl, arith}
use Rattle.std.proofs.Math.Nat.{dvd-mul_right, div-add-mod, mod-lt}
use Rattle.std.proofs.lemmas.Nat.Gcd.{mod-eq-zero_of_dvd, dvd_antisymm, le_of_dvd, IsGcd-from_zero, IsGcd-from_mod}
use Rattle.std.proofs.lemmas.Int.{ints, unsigned_abs-mul}
use Prim.Native.Nat.{◌∣◌}
use Rattle.std.specs.Int.{IsGcd}
use Rattle.whole_numbers.proofs.Ring.{mul_neg_right, mul_distrib_left, mul_assoc_int}
use Rattle.whole_numbers.specs.Divisors.{Divides, IsGreatestCommonDivisor}

-- a divisor's size divides the number's size
pub divides_sizes : (d a : ℤ) → Divides d a → unsigned_abs d ∣ unsigned_abs a
divides_sizes d a h =
    subst (λ (n : ℕ). unsigned_abs d ∣ n)
    (sym (unsigned_abs-mul d h.quotient) ∙ sym (ap unsigned_abs h.product))
    (dvd-mul_right (unsigned_abs d) (unsigned_abs h.quotient))

-- numbers of which one size is a multiple of the other
pub divides_by_sizes : (d a : ℤ) (k : ℕ) → unsigned_abs a ≡ unsigned_abs d * k → Divides d a
divides_by_sizes (pos d) (pos a) k h = record { quotient = pos k; product = omega (arith, ints) }
divides_by_sizes (pos d) (negsuc a) k h =
    let s = mul_neg_right (pos d) (pos k) in record { quotient = neg_ℤ (pos k); product = omega (arith, ints) }
divides_by_sizes (negsuc d) (pos a) k h =
    let s = mul_neg_right (negsuc d) (pos k) in record { quotient = neg_ℤ (pos k); product = omega (arith, ints) }
divides_by_sizes (negsuc d) (negsuc a) k h = record { quotient = pos k; product = omega (arith, ints) }

-- a number whose size divides the other's divides it
pub sizes_divide : (d a : ℤ) → unsigned_abs d ∣ unsigned_abs a → Divides d a
sizes_divide d a h =
    let m = unsigned_abs d in
    let n = unsigned_abs a in
    let none = mod-eq-zero_of_dvd m h in
    let whole = div-add-mod n m in
    divides_by_sizes d a (n / m) (omega arith)

-- the greatest common divisor of the sizes is that of the numbers
pub gcd_from_sizes : (a b : ℤ) (g : ℕ)
    → IsGcd (unsigned_abs a) (unsigned_abs b) g → IsGreatestCommonDivisor a b (pos g)
gcd_from_sizes a b g h =
    record {
      not_negative = omega (arith, ints);
      left = sizes_divide (pos g) a h.0;
      right = sizes_divide (pos g) b h.1;
      greatest = λ d l r. sizes_divide d (pos g) (h.2 (unsigned_abs d) (divides_sizes d a l) (divides_sizes d b r));
    }

-- numbers that are not negative and divide each other are equal
pub divides_antisymm : (a b : ℤ) → pos 0 ≤ℤ a → pos 0 ≤ℤ b → Divides a b → Divides b a → a ≡ b
divides_antisymm a b h k d e =
    let same = dvd_antisymm (divides_sizes a b d) (divides_sizes b a e) in omega (arith, ints, same)

-- there is one greatest common divisor
pub gcd_unique : (a b g h : ℤ) → IsGreatestCommonDivisor a b g → IsGreatestCommonDivisor a b h → g ≡ h
gcd_unique a b g h p q =
    divides_antisymm g h p.not_negative q.not_negative (q.greatest g p.left p.right) (p.greatest h q.left q.right)

-- the order of the two numbers is free
pub gcd_swap : (a b g : ℤ) → IsGreatestCommonDivisor a b g → IsGreatestCommonDivisor b a g
gcd_swap a b g h =
    record { not_negative = h.not_negative; left = h.right; right = h.left; greatest = λ d l r. h.greatest d r l }

-- a divisor of two numbers divides their sum
pub divides_add : (d a b : ℤ) → Divides d a → Divides d b → Divides d (a +ℤ b)
divides_add d a b h k =
    let s = mul_distrib_left h.quotient k.quotient d in
    let p = h.product in
    let q = k.product in
    record { quotient = h.quotient +ℤ k.quotient; product = omega (arith, ints) }

-- a divisor of a number divides its multiples
pub divides_multiple : (d a k : ℤ) → Divides d a → Divides d (a *ℤ k)
divides_multiple d a k h =
    record { quotient = h.quotient *ℤ k; product = ap (λ (z : ℤ). z *ℤ k) h.product ∙ mul_assoc_int d h.quotient k }

-- a divisor of a divisor is a divisor
pub divides_trans : (d e a : ℤ) → Divides d e → Divides e a → Divides d a
divides_trans d e a h k = subst (λ (z : ℤ). Divides d z) (sym k.product) (divides_multiple d e k.quotient h)

-- a divisor of a positive number is not above it
pub divides-le : (d a : ℤ) → pos 0 <ℤ a → Divides d a → d ≤ℤ a
divides-le d a h k =
    let sizes = le_of_dvd {m = unsigned_abs d} {n = unsigned_abs a} (omega (arith, ints)) (divides_sizes d a k) in
    omega (arith, ints, sizes)

-- no common divisor is above a positive greatest common divisor
pub gcd_greatest : (a b g d : ℤ)
    → IsGreatestCommonDivisor a b g → pos 0 <ℤ g → Divides d a → Divides d b → d ≤ℤ g
gcd_greatest a b g d h k l r = divides-le d g k (h.greatest d l r)

-- the greatest common divisor of a number and 0 is the number's size
pub gcd_of_zero : (a : ℤ) → IsGreatestCommonDivisor a (pos 0) (pos (unsigned_abs a))
gcd_of_zero a = gcd_from_sizes a (pos 0) (unsigned_abs a) (IsGcd-from_zero (unsigned_abs a) 0 refl)

-- Euclid's algorithm ends, in no more steps than the second number
sizes_have_gcd : (steps m n : ℕ) → n ≤ steps → (g : ℕ) × IsGcd m n g
sizes_have_gcd steps m zero h = (m, IsGcd-from_zero m 0 refl)
sizes_have_gcd zero m (suc n) h = absurd (omega arith)
sizes_have_gcd (suc steps) m (suc n) h =
    let rest : m % suc n < suc n = mod-lt m (omega arith) in
    let found = sizes_have_gcd steps (suc n) (m % suc n) (omega arith) in
    (found.0, IsGcd-from_mod m (suc n) found.0 found.1)

-- any two numbers have a greatest common divisor
pub gcd_exists : (a b : ℤ) → (g : ℤ) × IsGreatestCommonDivisor a b g
gcd_exists a b =
    let found = sizes_have_gcd (unsigned_abs b) (unsigned_abs a) (unsigned_abs b) (omega arith) in
    (pos found.0, gcd_from_sizes a b found.0 found.1)

pub ruleset divides_laws = (divides_add, divides_multiple, divides_trans)

pub ruleset gcd_laws = (gcd_swap, gcd_greatest, gcd_exists)
