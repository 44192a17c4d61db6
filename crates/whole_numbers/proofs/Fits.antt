-- The numbers that 128 bits hold.
use Rattle.std.proofs.Common.{ℤ, pos, negsuc, ◌^◌, Bool, true, false, IsTrue, IsFalse, refl, FitsSigned, ◌↔◌, neg_ℤ}
use Rattle.std.proofs.Common.{◌≤ℤ◌, ◌<ℤ◌, arith}
use Rattle.std.specs.Int.{w128}
use Rattle.std.proofs.lemmas.Int.{ints}
use Rattle.whole_numbers.specs.Fits.{fits}

-- the test says what std's `FitsSigned` says at 128 bits
pub fits_iff : (z : ℤ) → IsTrue (fits z) ↔ FitsSigned w128 z
fits_iff (pos n) = (
  λ (h : IsTrue (fits (pos n))). grind (arith, ints),
  λ (h : FitsSigned w128 (pos n)). grind (arith, ints),
)
fits_iff (negsuc n) = (
  λ (h : IsTrue (fits (negsuc n))). grind (arith, ints),
  λ (h : FitsSigned w128 (negsuc n)). grind (arith, ints),
)

-- 128 bits hold the numbers from -2^127 up to, but not, 2^127
pub fits_range : (z : ℤ) → IsTrue (fits z) ↔ ((neg_ℤ (pos (2 ^ 127)) ≤ℤ z) × (z <ℤ pos (2 ^ 127)))
fits_range z = (
  λ (h : IsTrue (fits z)). let f = (fits_iff z).0 h in (omega (arith, ints), omega (arith, ints)),
  λ (h : (neg_ℤ (pos (2 ^ 127)) ≤ℤ z) × (z <ℤ pos (2 ^ 127))).
      let f : FitsSigned w128 z = omega (arith, ints) in (fits_iff z).1 f,
)

-- what 128 bits do not hold fails the test
pub fits-false : (z : ℤ) → (FitsSigned w128 z → ⊥) → IsFalse (fits z)
fits-false z h = failed (fits z) (λ (t : IsTrue (fits z)). h ((fits_iff z).0 t))
  where
    failed : (b : Bool) → (IsTrue b → ⊥) → IsFalse b
    failed true h = absurd (h refl)
    failed false h = refl

-- what lies between two numbers that fit fits
pub fits_between : (low z high : ℤ) → IsTrue (fits low) → IsTrue (fits high) → low ≤ℤ z → z ≤ℤ high
    → IsTrue (fits z)
fits_between low z high f g h k =
    let a = (fits_range low).0 f in
    let b = (fits_range high).0 g in
    let below = a.0 in
    let above = b.1 in
    (fits_range z).1 (omega (arith, ints), omega (arith, ints))

pub ruleset fits_laws = (fits_range, fits_iff, fits_between)
