-- Forms over the new loops and the parameters have the values of the old ones, and their numbers fit.
use Rattle.scop_syntax.proofs.Common.{◌≡◌, ℕ, suc, ◌+◌, ◌*◌, ◌^◌, ◌≤◌, Bool, true, false, ℤ, pos, List, [], ◌∷◌, ◌++◌}
use Rattle.scop_syntax.proofs.Common.{length, map, ap, ap₂, subst, sym, ◌∙◌, refl, arith, length-append, mul-le-mul}
use Rattle.scop_syntax.proofs.Common.{All, ◌*ℤ◌, unsigned_abs, if◌then◌else◌, map-append, All-nil, All-cons, All-head}
use Rattle.scop_syntax.proofs.Common.{All-tail, All-append, Affine, value_of, values_of, composed, floor, ceiling, le_z}
use Rattle.scop_syntax.proofs.Common.{value_of-composed, AreAtMost, size}
use Rattle.scop_syntax.proofs.Sizes.{size-joined}
use Rattle.iteration_domains.specs.Rows.{variables}
use Rattle.iteration_domains.proofs.Surroundings.{length-composed, sized-variables}
use Rattle.iteration_domains.proofs.RowLaws.{GoesOn, values-variables, goes_on_last}
use Rattle.loop_tree.specs.Fits.{BoundsFit, FormFits, FormsFit, TestsFit, form_in}
use Rattle.loop_tree.specs.Marks.{AreBounds}
use Rattle.loop_tree.specs.Shape.{BoundsAreOver, BoundsAreUpTo, IsOver, IsUpTo, TestIsUpTo}
use Rattle.loop_tree.specs.Tree.{Bounds, only, besides, Test, at_least, equal, multiple}
use Rattle.loop_tree.specs.Walk.{all_hold, holds, lower, upper, max_z, min_z}
use Rattle.loop_tree.proofs.Fits.{form_fits}
use Rattle.loop_tree.proofs.SourceSizes.{entries_size}
use Rattle.tree_simplification.specs.steps.Inlined.{AreNear, IsPlace, bounds_over, test_over}
use Rattle.tree_simplification.proofs.Rounding.{rounded_flat, rounded_high, rounded_holds, rounded_low, rounded_sized}

-- each form of a place is over the new loops and the parameters
pub place_sized : (m k : ℕ) (loops forms : List Affine) → IsPlace m k loops forms → All (IsOver (k + m)) forms
place_sized m k loops forms place =
    subst (λ (fs : List Affine). All (IsOver (k + m)) fs) (sym place.are)
    (All-append (IsOver (k + m)) loops (variables (k + m) k m) place.sized (sized-variables (k + m) k m))

-- the forms of a place have the values of the old loops, and the parameters
pub place_values : (m k : ℕ) (loops forms : List Affine) (params outer : List ℤ) → IsPlace m k loops forms
    → length params ≡ m → length outer ≡ k
    → values_of forms (outer ++ params) ≡ values_of loops (outer ++ params) ++ params
place_values m k loops forms params outer place p o =
    let point = outer ++ params in
    let l = length-append outer params in
    let behind : values_of (variables (k + m) k m) point ≡ params =
    values-variables (k + m) k m point params (omega arith) p
    (subst (λ i. GoesOn point i params) o (goes_on_last outer params)) in
    ap (λ (fs : List Affine). values_of fs point) place.are
    ∙ (map-append (λ f. value_of f point) loops (variables (k + m) k m)
    ∙ ap (λ (zs : List ℤ). values_of loops point ++ zs) behind)

-- a composed form has the old form's value
pub value_over : (n : ℕ) (forms : List Affine) (point old : List ℤ) → values_of forms point ≡ old → (f : Affine)
    → value_of (composed f forms n) point ≡ value_of f old
value_over n forms point old at f = value_of-composed f forms n point ∙ ap (λ (p : List ℤ). value_of f p) at

pub values_over : (n : ℕ) (forms : List Affine) (point old : List ℤ) → values_of forms point ≡ old → (fs : List Affine)
    → values_of (map (λ f. composed f forms n) fs) point ≡ values_of fs old
values_over n forms point old at [] = refl
values_over n forms point old at (f ∷ fs) =
    ap₂ (λ (z : ℤ) (zs : List ℤ). z ∷ zs) (value_over n forms point old at f) (values_over n forms point old at fs)

pub lower_over : (n : ℕ) (forms : List Affine) (point old : List ℤ) → values_of forms point ≡ old → (bs : Bounds)
    → lower (bounds_over true n forms bs) point ≡ lower bs old
lower_over n forms point old at (only b) =
    rounded_low (record { form = composed b.form forms n; divisor = b.divisor }) point
    ∙ ap (λ (z : ℤ). ceiling z b.divisor) (value_over n forms point old at b.form)
lower_over n forms point old at (besides b bs) =
    ap₂ (λ (y z : ℤ). max_z y z)
    (rounded_low (record { form = composed b.form forms n; divisor = b.divisor }) point
    ∙ ap (λ (z : ℤ). ceiling z b.divisor) (value_over n forms point old at b.form))
    (lower_over n forms point old at bs)

pub upper_over : (n : ℕ) (forms : List Affine) (point old : List ℤ) → values_of forms point ≡ old → (bs : Bounds)
    → upper (bounds_over false n forms bs) point ≡ upper bs old
upper_over n forms point old at (only b) =
    rounded_high (record { form = composed b.form forms n; divisor = b.divisor }) point
    ∙ ap (λ (z : ℤ). floor z b.divisor) (value_over n forms point old at b.form)
upper_over n forms point old at (besides b bs) =
    ap₂ (λ (y z : ℤ). min_z y z)
    (rounded_high (record { form = composed b.form forms n; divisor = b.divisor }) point
    ∙ ap (λ (z : ℤ). floor z b.divisor) (value_over n forms point old at b.form))
    (upper_over n forms point old at bs)

holds_over : (n : ℕ) (forms : List Affine) (point old : List ℤ) → values_of forms point ≡ old → (test : Test)
    → holds (test_over n forms test) point ≡ holds test old
holds_over n forms point old at (at_least f) =
    rounded_holds (at_least (composed f forms n)) point
    ∙ ap (λ (z : ℤ). le_z (pos 0) z) (value_over n forms point old at f)
holds_over n forms point old at (equal f) =
    rounded_holds (equal (composed f forms n)) point
    ∙ ap (λ (z : ℤ). if le_z (pos 0) z then le_z z (pos 0) else false) (value_over n forms point old at f)
holds_over n forms point old at (multiple f d) =
    ap (λ (z : ℤ). le_z z (floor z d *ℤ d)) (value_over n forms point old at f)

pub all_hold_over : (n : ℕ) (forms : List Affine) (point old : List ℤ) → values_of forms point ≡ old
    → (tests : List Test) → all_hold (map (test_over n forms) tests) point ≡ all_hold tests old
all_hold_over n forms point old at [] = refl
all_hold_over n forms point old at (test ∷ tests) =
    ap₂ (λ (a b : Bool). if a then b else false) (holds_over n forms point old at test)
    (all_hold_over n forms point old at tests)

-- how many coefficients they have
pub bounds_sized : (up : Bool) (n : ℕ) (forms : List Affine) → All (IsOver n) forms → (bs : Bounds)
    → BoundsAreOver n (bounds_over up n forms bs)
bounds_sized up n forms sized (only b) =
    rounded_sized n up (record { form = composed b.form forms n; divisor = b.divisor })
    (length-composed n b.form forms sized)
bounds_sized up n forms sized (besides b bs) = (
  rounded_sized n up (record { form = composed b.form forms n; divisor = b.divisor })
      (length-composed n b.form forms sized),
  bounds_sized up n forms sized bs,
)

pub forms_sized : (n : ℕ) (forms : List Affine) → All (IsOver n) forms → (fs : List Affine)
    → All (IsOver n) (map (λ f. composed f forms n) fs)
forms_sized n forms sized [] = All-nil (IsOver n)
forms_sized n forms sized (f ∷ fs) =
    All-cons (IsOver n) (composed f forms n) (map (λ g. composed g forms n) fs) (length-composed n f forms sized)
    (forms_sized n forms sized fs)

-- divisors stay positive
pub bounds_flat : (up : Bool) (n : ℕ) (forms : List Affine) (bs : Bounds) → AreBounds bs
    → AreBounds (bounds_over up n forms bs)
bounds_flat up n forms (only b) h = rounded_flat up (record { form = composed b.form forms n; divisor = b.divisor }) h
bounds_flat up n forms (besides b bs) h =
    let first = rounded_flat up (record { form = composed b.form forms n; divisor = b.divisor }) h.0 in
    (first, bounds_flat up n forms bs h.1)

-- few small values make a point that is not too large
pub near_size : (d : ℕ) (params outer : List ℤ) → AreNear d params outer → size (outer ++ params) ≤ 2 ^ 80
near_size d params outer near =
    let j = size-joined outer params in
    let a = entries_size (2 ^ 40) outer near.small_values in
    let b = entries_size (2 ^ 16) params near.small_parameters in
    let few_loops = near.few_loops in
    let few_parameters = near.few_parameters in
    let same : 2 ^ 40 ≤ 2 ^ 40 = omega arith in
    let same_too : 2 ^ 16 ≤ 2 ^ 16 = omega arith in
    let o : length outer ≤ 2 ^ 32 = omega (arith, few_loops) in
    let c : length outer * 2 ^ 40 ≤ 2 ^ 32 * 2 ^ 40 = mul-le-mul o same in
    let e : length params * 2 ^ 16 ≤ 2 ^ 32 * 2 ^ 16 = mul-le-mul few_parameters same_too in
    omega (arith, j, a, b, c, e)

-- one value more
pub near_more : (d : ℕ) (params outer : List ℤ) (x : ℤ) → AreNear (suc d) params outer → unsigned_abs x ≤ 2 ^ 40
    → AreNear d params (outer ++ x ∷ [])
near_more d params outer x near h =
    let l = length-append outer (x ∷ []) in
    let few = near.few_loops in
    record {
      few_parameters = near.few_parameters;
      few_loops = omega (arith, l, few);
      small_parameters = near.small_parameters;
      small_values = behind outer near.small_values;
    }
  where
    behind : (xs : List ℤ) → AreAtMost (2 ^ 40) xs → AreAtMost (2 ^ 40) (xs ++ x ∷ [])
    behind [] k = (h, tt)
    behind (y ∷ xs) k = (k.0, behind xs k.1)

-- numbers within 2^45 fit there
form_fits_near : (f : Affine) (point : List ℤ) → size point ≤ 2 ^ 80 → IsUpTo (2 ^ 45) f → FormFits f point
form_fits_near f point s h =
    form_fits (2 ^ 45) f point (record { entries = refl; coefficients = h.0; constant = h.1 }) (omega (arith, s))

pub bounds_fit_near : (bs : Bounds) (point : List ℤ) → size point ≤ 2 ^ 80 → BoundsAreUpTo (2 ^ 45) bs
    → BoundsFit bs point
bounds_fit_near (only b) point s h = form_fits_near b.form point s h.0
bounds_fit_near (besides b bs) point s h = (form_fits_near b.form point s h.0.0, bounds_fit_near bs point s h.1)

test_up_to : (test : Test) → TestIsUpTo (2 ^ 45) test → IsUpTo (2 ^ 45) (form_in test)
test_up_to (at_least f) h = h
test_up_to (equal f) h = h
test_up_to (multiple f d) h = h.0

pub tests_fit_near : (tests : List Test) (point : List ℤ) → size point ≤ 2 ^ 80 → All (TestIsUpTo (2 ^ 45)) tests
    → TestsFit tests point
tests_fit_near [] point s h = tt
tests_fit_near (test ∷ tests) point s h = (
  form_fits_near (form_in test) point s (test_up_to test (All-head (TestIsUpTo (2 ^ 45)) test tests h)),
  tests_fit_near tests point s (All-tail (TestIsUpTo (2 ^ 45)) test tests h),
)

pub forms_fit_near : (fs : List Affine) (point : List ℤ) → size point ≤ 2 ^ 80 → All (IsUpTo (2 ^ 45)) fs
    → FormsFit fs point
forms_fit_near [] point s h = tt
forms_fit_near (f ∷ fs) point s h = (
  form_fits_near f point s (All-head (IsUpTo (2 ^ 45)) f fs h),
  forms_fit_near fs point s (All-tail (IsUpTo (2 ^ 45)) f fs h),
)
