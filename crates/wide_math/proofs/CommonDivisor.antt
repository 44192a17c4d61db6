-- The greatest common divisor of numbers by their sizes, and checked results that are read back.
use Rattle.whole_numbers.proofs.Common.{◌≡◌, ℕ, ℤ, pos, unsigned_abs, FitsSigned, to_z, of_z, subst₂, Ok, Err, ap, sym}
use Rattle.whole_numbers.proofs.Common.{◌∙◌, IsGcd, w128, fits_iff}
use Rattle.std.proofs.Common.{to_z-of_z}
use Rattle.whole_numbers.specs.Divisors.{IsGreatestCommonDivisor}
use Rattle.whole_numbers.proofs.Divisors.{gcd_from_sizes}
use Rattle.whole_numbers.proofs.Fits.{fits-false}
use Rattle.wide_math.specs.declared.Op.{Op}
use Rattle.wide_math.specs.Checked.{wide, checked}
use Rattle.wide_math.proofs.Steps.{checked-fits, checked-wide}

-- m and n are the sizes of a and b as the code has them: their greatest common divisor is that of a and b
pub gcd_of_read_sizes : (a b : ℤ) (m n g : ℕ) → FitsSigned w128 a → FitsSigned w128 b
    → m ≡ unsigned_abs (to_z w128 (of_z w128 a)) → n ≡ unsigned_abs (to_z w128 (of_z w128 b)) → IsGcd m n g
    → IsGreatestCommonDivisor a b (pos g)
gcd_of_read_sizes a b m n g fa fb sa sb h =
    let ta : m ≡ unsigned_abs a = simp to_z-of_z at sa in
    let tb : n ≡ unsigned_abs b = simp to_z-of_z at sb in
    gcd_from_sizes a b g (subst₂ (λ (x y : ℕ). IsGcd x y g) ta tb h)

-- a number that fits 128 bits, as the code has it, is what a checked operation with that result gives
pub checked_read : (op : Op) (a b z y : ℤ) → FitsSigned w128 z → y ≡ z
    → Ok (to_z w128 (of_z w128 y)) ≡ checked op a b z
checked_read op a b z y f e =
    let whole : to_z w128 (of_z w128 z) ≡ z = to_z-of_z f in
    ap (λ (k : ℤ). Ok (to_z w128 (of_z w128 k))) e ∙ ap (λ (k : ℤ). Ok k) whole
    ∙ sym (checked-fits op a b z ((fits_iff z).1 f))

-- the error as the code has it is what a checked operation gives whose result does not fit
pub checked_read_wide : (op : Op) (a b z : ℤ)
    → FitsSigned w128 a → FitsSigned w128 b → (FitsSigned w128 z → ⊥)
    → Err (wide op (to_z w128 (of_z w128 a)) (to_z w128 (of_z w128 b))) ≡ checked op a b z
checked_read_wide op a b z fa fb f = simp to_z-of_z (sym (checked-wide op a b z (fits-false z f)))
