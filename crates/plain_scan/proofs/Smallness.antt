-- The numbers of a scanned tree are small, and each loop has a number on each side.
use Rattle.scop_syntax.proofs.Common.{◌≡◌, ℕ, zero, suc, Bool, ℤ, pos, negsuc, List, [], ◌∷◌, get_or, set, inl, map}
use Rattle.scop_syntax.proofs.Common.{refl, sym, ap, subst, All, arith, ◌≤◌, ◌^◌, neg_ℤ, ◌*ℤ◌, unsigned_abs, ints}
use Rattle.scop_syntax.proofs.Common.{All-cons, All-head, All-nil, All-tail, multiples, zeros, Affine, multiple_of_form}
use Rattle.scop_syntax.proofs.Common.{mul_one_left, mul_neg_left, AreAtMost}
use Rattle.fractions.specs.Elimination.{narrowed, removed}
use Rattle.integer_sets.specs.Constraints.{variables_in}
use Rattle.integer_sets.specs.Scanned.{Scanned}
use Rattle.fm_projection.specs.Alone.{place_form}
use Rattle.loop_tree.specs.Tree.{Test, Tree, Trees, instance, loop, more, none}
use Rattle.loop_tree.specs.Fits.{AreSmallBounds, AreSmallForms, AreSmallTests, AreSmallTrees, AreZeros, HasNumber}
use Rattle.loop_tree.specs.Fits.{IsNumber, IsSmall, IsSmallTree}
use Rattle.plain_scan.specs.Sets.{equal_tests, leaves, place_forms, row_tests, tests_of, turn_forms, under}
use Rattle.plain_scan.specs.Rows.{high_bound, high_bounds, low_bound, low_bounds}
use Rattle.plain_scan.specs.Hulls.{own_leaf}
use Rattle.plain_scan.specs.Between.{HasSmallNumbers}
use Rattle.plain_scan.specs.Outlines.{HasSmallConstraints}

-- the numbers of lists and of forms made of others
pub small_negative : (c : ℤ) → unsigned_abs c ≤ 2 ^ 40 → unsigned_abs (neg_ℤ c) ≤ 2 ^ 40
small_negative (pos zero) h = h
small_negative (pos (suc n)) h = h
small_negative (negsuc n) h = h

small_opposite : (c : ℤ) → unsigned_abs c ≤ 2 ^ 40 → unsigned_abs (neg_ℤ (pos 1) *ℤ c) ≤ 2 ^ 40
small_opposite c h =
    let a = mul_neg_left (pos 1) c in
    let b = mul_one_left c in
    let e : neg_ℤ (pos 1) *ℤ c ≡ neg_ℤ c = omega (arith, ints) in
    subst (λ z. unsigned_abs z ≤ 2 ^ 40) (sym e) (small_negative c h)

small_multiples : (cs : List ℤ) → AreAtMost (2 ^ 40) cs → AreAtMost (2 ^ 40) (multiples (neg_ℤ (pos 1)) cs)
small_multiples [] h = tt
small_multiples (c ∷ cs) h = (small_opposite c h.0, small_multiples cs h.1)

small_removed : (i : ℕ) (cs : List ℤ) → AreAtMost (2 ^ 40) cs → AreAtMost (2 ^ 40) (removed i cs)
small_removed i [] h = tt
small_removed zero (c ∷ cs) h = h.1
small_removed (suc i) (c ∷ cs) h = (h.0, small_removed i cs h.1)

small_form : (f : Affine) → AreAtMost (2 ^ 40) f.coefficients → unsigned_abs f.constant ≤ 2 ^ 40 → IsSmall f
small_form f coefficients constant = record { entries = refl; coefficients = coefficients; constant = constant }

pub narrowed_small : (i : ℕ) (f : Affine) → IsSmall f → IsSmall (narrowed i f)
narrowed_small i f h = small_form (narrowed i f) (small_removed i f.coefficients h.coefficients) h.constant

pub opposite_small : (f : Affine) → IsSmall f → IsSmall (multiple_of_form (neg_ℤ (pos 1)) f)
opposite_small f h =
    small_form (multiple_of_form (neg_ℤ (pos 1)) f) (small_multiples f.coefficients h.coefficients)
    (small_opposite f.constant h.constant)

-- a form whose numbers are small is one of small numbers
at_most : (cs : List ℤ) → All (λ z. unsigned_abs z ≤ 2 ^ 40) cs → AreAtMost (2 ^ 40) cs
at_most [] h = tt
at_most (c ∷ cs) h =
    let P : ℤ → Type 0 = λ z. unsigned_abs z ≤ 2 ^ 40 in (All-head P c cs h, at_most cs (All-tail P c cs h))

of_at_most : (cs : List ℤ) → AreAtMost (2 ^ 40) cs → All (λ z. unsigned_abs z ≤ 2 ^ 40) cs
of_at_most [] h = All-nil (λ z. unsigned_abs z ≤ 2 ^ 40)
of_at_most (c ∷ cs) h = All-cons (λ z. unsigned_abs z ≤ 2 ^ 40) c cs h.0 (of_at_most cs h.1)

pub is_small : (f : Affine) → HasSmallNumbers f → IsSmall f
is_small f h = small_form f (at_most f.coefficients h.0) h.1

pub all_small : (fs : List Affine) → All HasSmallNumbers fs → All IsSmall fs
all_small fs h = λ k d inside. is_small (get_or fs k d) (h k d inside)

small_zeros : (n : ℕ) → AreAtMost (2 ^ 40) (zeros n)
small_zeros zero = tt
small_zeros (suc n) = (omega arith, small_zeros n)

small_set : (cs : List ℤ) (i : ℕ) (z : ℤ) → unsigned_abs z ≤ 2 ^ 40 → AreAtMost (2 ^ 40) cs
    → AreAtMost (2 ^ 40) (set cs i z)
small_set [] i z small h = tt
small_set (c ∷ cs) zero z small h = (small, h.1)
small_set (c ∷ cs) (suc i) z small h = (h.0, small_set cs i z small h.1)

pub place_small : (n i : ℕ) (k c : ℤ) → unsigned_abs k ≤ 2 ^ 40 → unsigned_abs c ≤ 2 ^ 40 → IsSmall (place_form n i k c)
place_small n i k c factor constant =
    small_form (place_form n i k c) (small_set (zeros n) i k factor (small_zeros n)) constant

pub place_has_small : (n i : ℕ) (k c : ℤ) → unsigned_abs k ≤ 2 ^ 40 → unsigned_abs c ≤ 2 ^ 40
    → HasSmallNumbers (place_form n i k c)
place_has_small n i k c factor constant =
    (of_at_most (set (zeros n) i k) (small_set (zeros n) i k factor (small_zeros n)), constant)

pub narrowed_has_small : (i : ℕ) (f : Affine) → HasSmallNumbers f → HasSmallNumbers (narrowed i f)
narrowed_has_small i f h =
    (of_at_most (removed i f.coefficients) (small_removed i f.coefficients (at_most f.coefficients h.0)), h.1)

-- the number of a loop on each side
zeros_zeros : (n i : ℕ) (k : ℤ) → AreZeros (removed i (set (zeros n) i k))
zeros_zeros zero i k = tt
zeros_zeros (suc n) zero k = all_zeros n
  where
    all_zeros : (m : ℕ) → AreZeros (zeros m)
    all_zeros zero = tt
    all_zeros (suc m) = (refl, all_zeros m)
zeros_zeros (suc n) (suc i) k = (refl, zeros_zeros n i k)

zeros_times : (cs : List ℤ) → AreZeros cs → AreZeros (multiples (neg_ℤ (pos 1)) cs)
zeros_times [] h = tt
zeros_times (c ∷ cs) h = (subst (λ z. neg_ℤ (pos 1) *ℤ z ≡ pos 0) (sym h.0) refl, zeros_times cs h.1)

pub low_is_number : (n place : ℕ) (low : ℤ) → unsigned_abs low ≤ 2 ^ 40
    → get_or (set (zeros n) place (pos 1)) place (pos 0) ≡ pos 1
    → IsNumber (low_bound place (place_form n place (pos 1) low))
low_is_number n place low small one =
    record {
      form = zeros_times (removed place (set (zeros n) place (pos 1))) (zeros_zeros n place (pos 1));
      constant = small_opposite low small;
      divisor = one;
    }

pub high_is_number : (n place : ℕ) (high : ℤ) → unsigned_abs high ≤ 2 ^ 40
    → get_or (set (zeros n) place (negsuc 0)) place (pos 0) ≡ negsuc 0
    → IsNumber (high_bound place (place_form n place (negsuc 0) high))
high_is_number n place high small one =
    record {
      form = zeros_zeros n place (negsuc 0);
      constant = small;
      divisor = ap neg_ℤ one;
    }

first_low : (m : ℕ) (f : Affine) (fs : List Affine) → IsNumber (low_bound m f) → HasNumber (low_bounds m f fs)
first_low m f [] h = h
first_low m f (g ∷ gs) h = inl h

first_high : (m : ℕ) (f : Affine) (fs : List Affine) → IsNumber (high_bound m f) → HasNumber (high_bounds m f fs)
first_high m f [] h = h
first_high m f (g ∷ gs) h = inl h

-- bounds of small rows
pub lows_bound_small : (m : ℕ) (f : Affine) (fs : List Affine) → IsSmall f → AreSmallForms fs
    → AreSmallBounds (low_bounds m f fs)
lows_bound_small m f [] h all = opposite_small (narrowed m f) (narrowed_small m f h)
lows_bound_small m f (g ∷ gs) h all =
    (opposite_small (narrowed m f) (narrowed_small m f h), lows_bound_small m g gs all.0 all.1)

pub highs_bound_small : (m : ℕ) (f : Affine) (fs : List Affine) → IsSmall f → AreSmallForms fs
    → AreSmallBounds (high_bounds m f fs)
highs_bound_small m f [] h all = narrowed_small m f h
highs_bound_small m f (g ∷ gs) h all = (narrowed_small m f h, highs_bound_small m g gs all.0 all.1)

-- a loop round a body
pub loop_small : (d : ℕ) (m : ℕ) (flag : Bool) (low high : Affine) (lows highs : List Affine) (body : Trees)
    → IsSmall low → IsSmall high → AreSmallForms lows → AreSmallForms highs → IsNumber (low_bound m low)
    → IsNumber (high_bound m high)
    → AreSmallTrees d body
    → AreSmallTrees (suc d) (more (loop flag (low_bounds m low lows) (high_bounds m high highs) body) none)
loop_small d m flag low high lows highs body l h ls hs ln hn inner = (
  (
    lows_bound_small m low lows l ls,
    highs_bound_small m high highs h hs,
    first_low m low lows ln,
    first_high m high highs hn,
    inner,
  ),
  tt,
)

-- leaves
row_tests_small : (fs : List Affine) → All IsSmall fs → AreSmallTests (row_tests fs)
row_tests_small [] h = tt
row_tests_small (f ∷ fs) h = (All-head IsSmall f fs h, row_tests_small fs (All-tail IsSmall f fs h))

equal_tests_small : (fs : List Affine) (tests : List Test) → All IsSmall fs → AreSmallTests tests
    → AreSmallTests (equal_tests fs tests)
equal_tests_small [] tests h rest = rest
equal_tests_small (f ∷ fs) tests h rest =
    (All-head IsSmall f fs h, equal_tests_small fs tests (All-tail IsSmall f fs h) rest)

places_small : (n i m : ℕ) → AreSmallForms (place_forms n i m)
places_small n i zero = tt
places_small n i (suc m) =
    (place_small n i (pos 1) (pos 0) (omega arith) (omega arith), places_small n (suc i) m)

under_small : (tests : List Test) (t : Tree) → AreSmallTests tests → IsSmallTree 0 t → IsSmallTree 0 (under tests t)
under_small [] t h small = small
under_small (test ∷ tests) t h small = (h, (small, tt))

pub leaves_small : (sets : List Scanned) → All (λ s. HasSmallConstraints s.system) sets
    → AreSmallTrees 0 (leaves (map own_leaf sets))
leaves_small [] h = tt
leaves_small (s ∷ sets) h =
    let own = All-head (λ q. HasSmallConstraints q.system) s sets h in (
      under_small (tests_of s) (instance s.statement (turn_forms s))
          (equal_tests_small s.system.equalities (row_tests s.system.rows) (all_small s.system.equalities own.0)
          (row_tests_small s.system.rows (all_small s.system.rows own.1)))
          (places_small (variables_in s.system) s.first s.iterators),
      leaves_small sets (All-tail (λ q. HasSmallConstraints q.system) s sets h),
    )
