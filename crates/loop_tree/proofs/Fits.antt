-- A tree of small numbers whose loops have numeric bounds fits.
use Rattle.scop_syntax.proofs.Common.{refl, ◌≡◌, ℕ, zero, suc, ◌+◌, ◌*◌, ◌<◌, ℤ, pos, List, [], ◌∷◌, ◌++◌, length, inl}
use Rattle.scop_syntax.proofs.Common.{inr, subst, sym, arith, mul-le-mul, ◌≤◌, ◌^◌, neg_ℤ, ◌+ℤ◌, ◌*ℤ◌, ◌≤ℤ◌}
use Rattle.scop_syntax.proofs.Common.{unsigned_abs, ints, unsigned_abs-mul, Affine, value_of, floor, ceiling, floor_is}
use Rattle.scop_syntax.proofs.Common.{ceiling_is, mul_one_right, mul_zero_left, dot, abs_at_most, abs_high, abs_low}
use Rattle.scop_syntax.proofs.Common.{abs_sum, AreAtMost, IsForm, size, value_size}
use Rattle.loop_tree.specs.Tree.{Bound, Bounds, only, besides, Test, Tree, loop, guard, instance, Trees, none, more}
use Rattle.loop_tree.specs.Walk.{lower, upper}
use Rattle.loop_tree.specs.Fits.{SumsFit, FormFits, BoundsFit, form_in, TestsFit, FormsFit, Fits, FitsAll, IsSmall}
use Rattle.loop_tree.specs.Fits.{AreZeros, IsNumber, AreSmallBounds, HasNumber, AreSmallTests, AreSmallForms}
use Rattle.loop_tree.specs.Fits.{IsSmallTree, AreSmallTrees}
use Rattle.loop_tree.proofs.Extremes.{below_max, min_above}

-- coefficients within k leave room for the sums
sums_fit : (k : ℕ) (sum : ℤ) (cs xs : List ℤ) → AreAtMost k cs → unsigned_abs sum + k * size xs < 2 ^ 127
    → SumsFit sum cs xs
sums_fit k sum [] xs h room = tt
sums_fit k sum (c ∷ cs) [] h room = tt
sums_fit k sum (c ∷ cs) (x ∷ xs) h room =
    let m = unsigned_abs-mul c x in
    let p : unsigned_abs c * unsigned_abs x ≤ k * unsigned_abs x = mul-le-mul h.0 (omega arith) in
    let s = abs_sum sum (c *ℤ x) in
    let e : k * (unsigned_abs x + size xs) ≡ k * unsigned_abs x + k * size xs = grind arith in (
      omega (arith, m, p, e),
      omega (arith, m, p, s, e),
      sums_fit k (sum +ℤ (c *ℤ x)) cs xs h.1 (omega (arith, m, p, s, e)),
    )

-- a form with numbers within k fits at a point that is not too large
pub form_fits : (k : ℕ) (f : Affine) (point : List ℤ) → IsForm (length f.coefficients) k k f
    → k * size point + k < 2 ^ 127 → FormFits f point
form_fits k f point small s =
    let v = value_size (length f.coefficients) k k f point small in
    record {
      sums = sums_fit k (pos 0) f.coefficients point small.coefficients (omega (arith, s));
      value = omega (arith, v, s);
    }

small_form_fits : (f : Affine) (point : List ℤ) → IsSmall f → size point ≤ 2 ^ 80 → FormFits f point
small_form_fits f point small s =
    form_fits (2 ^ 40) f point small (omega (arith, s))

bounds_fit : (bs : Bounds) (point : List ℤ) → AreSmallBounds bs → size point ≤ 2 ^ 80 → BoundsFit bs point
bounds_fit (only b) point h s = small_form_fits b.form point h s
bounds_fit (besides b bs) point h s = (small_form_fits b.form point h.0 s, bounds_fit bs point h.1 s)

tests_fit : (tests : List Test) (point : List ℤ) → AreSmallTests tests → size point ≤ 2 ^ 80 → TestsFit tests point
tests_fit [] point h s = tt
tests_fit (test ∷ tests) point h s = (small_form_fits (form_in test) point h.0 s, tests_fit tests point h.1 s)

forms_fit : (forms : List Affine) (point : List ℤ) → AreSmallForms forms → size point ≤ 2 ^ 80
    → FormsFit forms point
forms_fit [] point h s = tt
forms_fit (f ∷ forms) point h s = (small_form_fits f point h.0 s, forms_fit forms point h.1 s)

-- a numeric bound is kept
pub dot_zeros : (cs xs : List ℤ) → AreZeros cs → dot cs xs ≡ pos 0
dot_zeros [] xs h = refl
dot_zeros (c ∷ cs) [] h = refl
dot_zeros (c ∷ cs) (x ∷ xs) h =
    let r = dot_zeros cs xs h.1 in
    let z = subst (λ a. a *ℤ x ≡ pos 0) (sym h.0) (mul_zero_left x) in
    omega (arith, ints)

number_value : (b : Bound) (point : List ℤ) → IsNumber b → value_of b.form point ≡ b.form.constant
number_value b point h = let d = dot_zeros b.form.coefficients point h.form in omega (arith, ints)

low_number : (b : Bound) (point : List ℤ) (x : ℤ) → IsNumber b → ceiling (value_of b.form point) b.divisor ≤ℤ x
    → neg_ℤ (pos (2 ^ 40)) ≤ℤ x
low_number b point x h l =
    let v = number_value b point h in
    let d = h.divisor in
    let i = ceiling_is (value_of b.form point) b.divisor (omega (arith, ints, d)) in
    let c = ceiling (value_of b.form point) b.divisor in
    let m = subst (λ q. c *ℤ q ≡ c) (sym d) (mul_one_right c) in
    let a = i.above in
    let k = h.constant in
    let e = abs_low b.form.constant in
    omega (arith, ints)

high_number : (b : Bound) (point : List ℤ) (x : ℤ) → IsNumber b → x ≤ℤ floor (value_of b.form point) b.divisor
    → x ≤ℤ pos (2 ^ 40)
high_number b point x h l =
    let v = number_value b point h in
    let d = h.divisor in
    let i = floor_is (value_of b.form point) b.divisor (omega (arith, ints, d)) in
    let c = floor (value_of b.form point) b.divisor in
    let m = subst (λ q. c *ℤ q ≡ c) (sym d) (mul_one_right c) in
    let a = i.below in
    let k = h.constant in
    let e = abs_high b.form.constant in
    omega (arith, ints)

above_number : (bs : Bounds) (point : List ℤ) (x : ℤ) → HasNumber bs → lower bs point ≤ℤ x
    → neg_ℤ (pos (2 ^ 40)) ≤ℤ x
above_number (only b) point x h l = low_number b point x h l
above_number (besides b bs) point x (inl h) l =
    low_number b point x h (below_max (ceiling (value_of b.form point) b.divisor) (lower bs point) x l).0
above_number (besides b bs) point x (inr h) l =
    above_number bs point x h (below_max (ceiling (value_of b.form point) b.divisor) (lower bs point) x l).1

below_number : (bs : Bounds) (point : List ℤ) (x : ℤ) → HasNumber bs → x ≤ℤ upper bs point → x ≤ℤ pos (2 ^ 40)
below_number (only b) point x h l = high_number b point x h l
below_number (besides b bs) point x (inl h) l =
    high_number b point x h (min_above (floor (value_of b.form point) b.divisor) (upper bs point) x l).0
below_number (besides b bs) point x (inr h) l =
    below_number bs point x h (min_above (floor (value_of b.form point) b.divisor) (upper bs point) x l).1

pub size_with : (outer : List ℤ) (x : ℤ) (params : List ℤ)
    → size ((outer ++ x ∷ []) ++ params) ≡ size (outer ++ params) + unsigned_abs x
size_with [] x params = omega arith
size_with (y ∷ outer) x params = let r = size_with outer x params in omega (arith, r)

mutual
  pub small_fits : (d : ℕ) (t : Tree) (params outer : List ℤ) → IsSmallTree d t
      → size (outer ++ params) + d * (2 ^ 40) ≤ 2 ^ 80 → Fits t params outer
  small_fits zero (loop flag lo up body) params outer h s = absurd h
  small_fits (suc d) (loop flag lo up body) params outer h s = (
    bounds_fit lo (outer ++ params) h.0 (omega (arith, s)),
    bounds_fit up (outer ++ params) h.1 (omega (arith, s)),
    (λ x w.
        let a = above_number lo (outer ++ params) x h.2 w.0 in
        let b = below_number up (outer ++ params) x h.3 w.1 in
        let c = abs_at_most x (2 ^ 40) a b in
        let e = size_with outer x params in
        (omega (arith, c), small_fits_all d body params (outer ++ x ∷ []) h.4 (omega (arith, c, e, s)))),
  )
  small_fits d (guard tests body) params outer h s =
      (tests_fit tests (outer ++ params) h.0 (omega (arith, s)), (λ e. small_fits_all d body params outer h.1 s))
  small_fits d (instance n forms) params outer h s = forms_fit forms (outer ++ params) h (omega (arith, s))

  pub small_fits_all : (d : ℕ) (ts : Trees) (params outer : List ℤ) → AreSmallTrees d ts
      → size (outer ++ params) + d * (2 ^ 40) ≤ 2 ^ 80 → FitsAll ts params outer
  small_fits_all d none params outer h s = tt
  small_fits_all d (more t ts) params outer h s =
      (small_fits d t params outer h.0 s, small_fits_all d ts params outer h.1 s)
