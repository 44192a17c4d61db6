-- What holds of rows holds of those that are sorted out.
use Rattle.scop_syntax.proofs.Common.{◌≡◌, ℕ, zero, suc, ℤ, pos, negsuc, List, [], ◌∷◌, All, refl, arith, ◌≤ℤ◌, ints}
use Rattle.scop_syntax.proofs.Common.{All-cons, All-head, All-tail, Affine, value_of}
use Rattle.plain_scan.specs.steps.Serving.{AllAtLeast, AreLow, AreHigh}
use Rattle.fractions.specs.Elimination.{coefficient_of}
use Rattle.plain_scan.specs.Sorting.{if_above, if_below, lows_in, highs_in}

-- sorted rows bound as they are named
low_step : (m : ℕ) (z : ℤ) (f : Affine) (fs : List Affine) → coefficient_of m f ≡ z → AreLow m fs
    → AreLow m (if_above z f fs)
low_step m (pos zero) f fs e h = h
low_step m (pos (suc n)) f fs e h = (omega (arith, ints), h)
low_step m (negsuc n) f fs e h = h

pub lows_are_low : (m : ℕ) (fs : List Affine) → AreLow m (lows_in m fs)
lows_are_low m [] = tt
lows_are_low m (f ∷ fs) = low_step m (coefficient_of m f) f (lows_in m fs) refl (lows_are_low m fs)

high_step : (m : ℕ) (z : ℤ) (f : Affine) (fs : List Affine) → coefficient_of m f ≡ z → AreHigh m fs
    → AreHigh m (if_below z f fs)
high_step m (pos n) f fs e h = h
high_step m (negsuc n) f fs e h = (omega (arith, ints), h)

pub highs_are_high : (m : ℕ) (fs : List Affine) → AreHigh m (highs_in m fs)
highs_are_high m [] = tt
highs_are_high m (f ∷ fs) = high_step m (coefficient_of m f) f (highs_in m fs) refl (highs_are_high m fs)

-- rows that hold, sorted
low_holds : (z : ℤ) (f : Affine) (fs : List Affine) (point : List ℤ) → pos 0 ≤ℤ value_of f point → AllAtLeast fs point
    → AllAtLeast (if_above z f fs) point
low_holds (pos zero) f fs point h all = all
low_holds (pos (suc n)) f fs point h all = (h, all)
low_holds (negsuc n) f fs point h all = all

high_holds : (z : ℤ) (f : Affine) (fs : List Affine) (point : List ℤ) → pos 0 ≤ℤ value_of f point → AllAtLeast fs point
    → AllAtLeast (if_below z f fs) point
high_holds (pos n) f fs point h all = all
high_holds (negsuc n) f fs point h all = (h, all)

pub lows_hold : (m : ℕ) (fs : List Affine) (point : List ℤ) → AllAtLeast fs point → AllAtLeast (lows_in m fs) point
lows_hold m [] point h = tt
lows_hold m (f ∷ fs) point h =
    low_holds (coefficient_of m f) f (lows_in m fs) point h.0 (lows_hold m fs point h.1)

pub highs_hold : (m : ℕ) (fs : List Affine) (point : List ℤ) → AllAtLeast fs point
    → AllAtLeast (highs_in m fs) point
highs_hold m [] point h = tt
highs_hold m (f ∷ fs) point h =
    high_holds (coefficient_of m f) f (highs_in m fs) point h.0 (highs_hold m fs point h.1)

-- what holds of rows holds of those that bound a variable from one side
low_of : (P : Affine → Type 0) (z : ℤ) (f : Affine) (fs : List Affine) → P f → All P fs → All P (if_above z f fs)
low_of P (pos zero) f fs h all = all
low_of P (pos (suc n)) f fs h all = All-cons P f fs h all
low_of P (negsuc n) f fs h all = all

high_of : (P : Affine → Type 0) (z : ℤ) (f : Affine) (fs : List Affine) → P f → All P fs → All P (if_below z f fs)
high_of P (pos n) f fs h all = all
high_of P (negsuc n) f fs h all = All-cons P f fs h all

pub lows_of : (P : Affine → Type 0) (m : ℕ) (fs : List Affine) → All P fs → All P (lows_in m fs)
lows_of P m [] h = h
lows_of P m (f ∷ fs) h =
    low_of P (coefficient_of m f) f (lows_in m fs) (All-head P f fs h) (lows_of P m fs (All-tail P f fs h))

pub highs_of : (P : Affine → Type 0) (m : ℕ) (fs : List Affine) → All P fs → All P (highs_in m fs)
highs_of P m [] h = h
highs_of P m (f ∷ fs) h =
    high_of P (coefficient_of m f) f (highs_in m fs) (All-head P f fs h) (highs_of P m fs (All-tail P f fs h))
