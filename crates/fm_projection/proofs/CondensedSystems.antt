-- A condensed system has the same points over each denominator, and its forms are over as many variables.
use Rattle.whole_numbers.proofs.Common.{◌≡◌, ℕ, suc, ◌<◌, ℤ, pos, negsuc, neg_ℤ, ◌*ℤ◌, ◌≤ℤ◌, ◌<ℤ◌, unsigned_abs, Bool}
use Rattle.whole_numbers.proofs.Common.{true, false, get_or, List, [], ◌∷◌, ◌++◌, length, ◌↔◌, refl, sym, ◌∙◌, ap}
use Rattle.whole_numbers.proofs.Common.{subst, All, arith, Result, Ok, Err, not, ◌&&◌, if◌then◌else◌, nat_eq, list_all}
use Rattle.whole_numbers.proofs.Common.{eq-eqb, eqb-true, false≢true, ints, All-append, All-cons, All-head, All-nil}
use Rattle.whole_numbers.proofs.Common.{All-tail, Affine, multiple_of_form, dot, all_front, all_back, mul_not_negative}
use Rattle.whole_numbers.proofs.Common.{mul_zero_right}
use Rattle.whole_numbers.specs.Content.{lowest_of_form}
use Rattle.wide_math.specs.declared.Wide.{Wide}
use Rattle.fractions.specs.Elimination.{coefficient_of, is_negative, is_zero, reduced, sign}
use Rattle.fractions.specs.Fractions.{HoldsOver, value_over}
use Rattle.fractions.proofs.ChosenRows.{is_zero_iff}
use Rattle.fractions.proofs.Content.{lowest_sign}
use Rattle.fractions.proofs.EqualityElimination.{least_scales, size_positive, zero_scales}
use Rattle.fractions.proofs.PointValues.{value_over-multiple, value_over-sum}
use Rattle.affine_forms.specs.Parts.{variables_of}
use Rattle.integer_sets.specs.Constraints.{Constraints}
use Rattle.integer_sets.specs.Points.{Satisfies}
use Rattle.fm_projection.specs.Runs.{reduced_run}
use Rattle.fm_projection.specs.Condensed.{cleared, cleared_at, cleared_by, first_place, given_or, is_constant}
use Rattle.fm_projection.specs.Condensed.{own_equalities, own_rows, condensed, with_cleared, with_equalities, with_equality}
use Rattle.fm_projection.specs.Condensed.{with_told}
use Rattle.fm_projection.specs.Tightest.{with_row}
use Rattle.fm_projection.proofs.Exact.{lowest_sized, reduced_run-exact, sum_sized}
use Rattle.fm_projection.proofs.Law.{whole_point}
use Rattle.fm_projection.proofs.TightestRows.{both_with, kept_with}

both_hold : (a b : Bool) → (a && b) ≡ true → (a ≡ true) × (b ≡ true)
both_hold true b h = (refl, h)
both_hold false b h = absurd (false≢true h)

-- ---- sizes

given_sized : (f : Affine) (n : ℕ) (r : Result Affine Wide) → variables_of f ≡ n
    → ((g : Affine) → r ≡ Ok g → variables_of g ≡ n) → variables_of (given_or f r) ≡ n
given_sized f n (Ok g) own made = made g refl
given_sized f n (Err w) own made = own

reduced_sized : (i n : ℕ) (e f g : Affine) → variables_of f ≡ n → variables_of e ≡ n → reduced_run i e f ≡ Ok g
    → variables_of g ≡ n
reduced_sized i n e f g first second run =
    let m = pos (unsigned_abs (coefficient_of i e)) in
    let k = neg_ℤ (sign (coefficient_of i e) *ℤ coefficient_of i f) in
    ap variables_of (reduced_run-exact i e f g (first ∙ sym second) run)
    ∙ (lowest_sized (reduced i e f) ∙ sum_sized n m k f e first second)

at_sized : (i n : ℕ) (e f : Affine) → variables_of f ≡ n → variables_of e ≡ n → variables_of (cleared_at i e f) ≡ n
at_sized i n e f first second = by (is_zero (coefficient_of i e)) (is_zero (coefficient_of i f))
  where
    by : (b c : Bool) → variables_of (if b then f else if c then f else given_or f (reduced_run i e f)) ≡ n
    by true c = first
    by false true = first
    by false false =
        given_sized f n (reduced_run i e f) first (λ g run. reduced_sized i n e f g first second run)

cleared_sized : (n : ℕ) (e f : Affine) → variables_of f ≡ n → variables_of (cleared e f) ≡ n
cleared_sized n e f own = by (nat_eq (length f.coefficients) (length e.coefficients)) refl
  where
    by : (b : Bool) → nat_eq (length f.coefficients) (length e.coefficients) ≡ b
        → variables_of (if b then cleared_at (first_place e.coefficients) e f else f) ≡ n
    by true same =
        at_sized (first_place e.coefficients) n e f own
        (sym (eqb-true (length f.coefficients) (length e.coefficients) same) ∙ own)
    by false other = own

by_sized : (n : ℕ) (es : List Affine) (f : Affine) → variables_of f ≡ n → variables_of (cleared_by es f) ≡ n
by_sized n [] f own = own
by_sized n (e ∷ es) f own = by_sized n es (cleared e f) (cleared_sized n e f own)

abbrev pub AreOf : ℕ → List Affine → Type 0
AreOf n fs = All (λ f. variables_of f ≡ n) fs

one_equality_sized : (n : ℕ) (es : List Affine) (g : Affine) → AreOf n es → variables_of g ≡ n
    → AreOf n (with_equality es g)
one_equality_sized n es g all own = by (is_constant g && is_zero g.constant)
  where
    by : (b : Bool) → AreOf n (if b then es else es ++ g ∷ [])
    by true = all
    by false =
        let Of : Affine → Type 0 = λ h. variables_of h ≡ n in
        All-append Of es (g ∷ []) all (All-cons Of g [] own (All-nil Of))

pub equalities_sized : (n : ℕ) (es fs : List Affine) → AreOf n es → AreOf n fs → AreOf n (with_equalities es fs)
equalities_sized n es [] all more = all
equalities_sized n es (f ∷ fs) all more =
    let Of : Affine → Type 0 = λ h. variables_of h ≡ n in
    equalities_sized n (with_equality es (cleared_by es f)) fs
    (one_equality_sized n es (cleared_by es f) all (by_sized n es f (All-head Of f fs more))) (All-tail Of f fs more)

one_row_sized : (n : ℕ) (rows : List Affine) (g : Affine) → AreOf n rows → variables_of g ≡ n
    → AreOf n (with_told rows g)
one_row_sized n rows g all own = by (is_constant g && not (is_negative g.constant))
  where
    by : (b : Bool) → AreOf n (if b then rows else with_row rows g)
    by true = all
    by false = kept_with (λ h. variables_of h ≡ n) rows g all own

pub rows_sized : (n : ℕ) (es rows fs : List Affine) → AreOf n rows → AreOf n fs → AreOf n (with_cleared es rows fs)
rows_sized n es rows [] all more = all
rows_sized n es rows (f ∷ fs) all more =
    let Of : Affine → Type 0 = λ h. variables_of h ≡ n in
    rows_sized n es (with_told rows (cleared_by es f)) fs
    (one_row_sized n rows (cleared_by es f) all (by_sized n es f (All-head Of f fs more))) (All-tail Of f fs more)

-- ---- what clears a form

first_has : (cs : List ℤ) → first_place cs < length cs → is_zero (get_or cs (first_place cs) (pos 0)) ≡ false
first_has [] inside = absurd (omega (arith, inside))
first_has (c ∷ cs) inside = by (is_zero c) refl inside (first_has cs)
  where
    by : (b : Bool) → is_zero c ≡ b → (if b then suc (first_place cs) else 0) < suc (length cs)
        → (first_place cs < length cs → is_zero (get_or cs (first_place cs) (pos 0)) ≡ false)
        → is_zero (get_or (c ∷ cs) (if b then suc (first_place cs) else 0) (pos 0)) ≡ false
    by true none less rest = rest (omega (arith, less))
    by false has less rest = has

-- a form that is cleared
pub cleared_is : (e f g : Affine) → variables_of f ≡ variables_of e → first_place e.coefficients < variables_of e
    → is_zero (coefficient_of (first_place e.coefficients) f) ≡ false
    → reduced_run (first_place e.coefficients) e f ≡ Ok g → g ≡ cleared e f
cleared_is e f g same inside has run =
    by (nat_eq (length f.coefficients) (length e.coefficients)) (is_zero (coefficient_of (first_place e.coefficients) e))
    (is_zero (coefficient_of (first_place e.coefficients) f)) (reduced_run (first_place e.coefficients) e f)
    (eq-eqb (length f.coefficients) (length e.coefficients) same) (first_has e.coefficients inside) has run
  where
    by : (a b c : Bool) (r : Result Affine Wide) → a ≡ true → b ≡ false → c ≡ false → r ≡ Ok g
        → g ≡ (if a then (if b then f else if c then f else given_or f r) else f)
    by true false false (Ok h) one two three four = let e : h ≡ g = cc in sym e
    by true false false (Err w) one two three four = cc
    by true false true r one two three four = cc
    by true true c r one two three four = cc
    by false b c r one two three four = cc

-- ---- points

constant_dot : (cs xs : List ℤ) → list_all is_zero cs ≡ true → dot cs xs ≡ pos 0
constant_dot [] xs h = refl
constant_dot (c ∷ cs) [] h = refl
constant_dot (c ∷ cs) (x ∷ xs) h =
    let both = both_hold (is_zero c) (list_all is_zero cs) h in
    let first = ap (λ (z : ℤ). z *ℤ x) ((is_zero_iff c).0 both.0) in
    let rest = constant_dot cs xs both.1 in
    omega (arith, ints)

module _ (d : ℤ) (xs : List ℤ) (positive : pos 0 <ℤ d) where
  abbrev Zero : Affine → Type 0
  Zero f = value_over f d xs ≡ pos 0

  abbrev Up : Affine → Type 0
  Up f = pos 0 ≤ℤ value_over f d xs

  -- one is 0 where the other is, and not negative where the other is not
  abbrev Alike : Affine → Affine → Type 0
  Alike f g = (Zero f ↔ Zero g) × (Up f ↔ Up g)

  alike_self : (f : Affine) → Alike f f
  alike_self f = ((λ h. h, λ h. h), (λ h. h, λ h. h))

  alike_then : (f g h : Affine) → Alike f g → Alike g h → Alike f h
  alike_then f g h a b = (
    (λ z. b.0.0 (a.0.0 z), λ z. a.0.1 (b.0.1 z)),
    (λ z. b.1.0 (a.1.0 z), λ z. a.1.1 (b.1.1 z)),
  )

  -- where the equality holds, a form has the sign that it has with the equality's value of a variable
  reduced_alike : (i : ℕ) (e f : Affine) → is_zero (coefficient_of i e) ≡ false → Zero e → Alike (reduced i e f) f
  reduced_alike i e f has zero =
      let m = pos (unsigned_abs (coefficient_of i e)) in
      let k = neg_ℤ (sign (coefficient_of i e) *ℤ coefficient_of i f) in
      let v = value_over f d xs in
      let none = ap (λ (z : ℤ). k *ℤ z) zero ∙ mul_zero_right k in
      let sum = value_over-sum (multiple_of_form m f) (multiple_of_form k e) d xs in
      let first = value_over-multiple m f d xs in
      let second = value_over-multiple k e d xs in
      let is : value_over (reduced i e f) d xs ≡ m *ℤ v = omega (arith, ints, none, sum, first, second) in
      let z = zero_scales m v (size_positive (coefficient_of i e) has) in
      let u = least_scales m v (size_positive (coefficient_of i e) has) in (
        (λ h. z.0 (sym is ∙ h), λ h. is ∙ z.1 h),
        (
          λ h. u.0 (subst (λ (y : ℤ). pos 0 ≤ℤ y) is h),
          λ h. subst (λ (y : ℤ). pos 0 ≤ℤ y) (sym is) (u.1 h),
        ),
      )

  given_alike : (i : ℕ) (e f : Affine) → variables_of f ≡ variables_of e → is_zero (coefficient_of i e) ≡ false
      → Zero e → (r : Result Affine Wide) → reduced_run i e f ≡ r → Alike (given_or f r) f
  given_alike i e f same has zero (Err w) run = alike_self f
  given_alike i e f same has zero (Ok g) run =
      subst (λ (h : Affine). Alike h f) (sym (reduced_run-exact i e f g same run))
      (alike_then (lowest_of_form (reduced i e f)) (reduced i e f) f (lowest_sign (reduced i e f) d xs)
      (reduced_alike i e f has zero))

  at_alike : (i : ℕ) (e f : Affine) → variables_of f ≡ variables_of e → Zero e → Alike (cleared_at i e f) f
  at_alike i e f same zero = by (is_zero (coefficient_of i e)) refl (is_zero (coefficient_of i f))
    where
      by : (b : Bool) → is_zero (coefficient_of i e) ≡ b → (c : Bool)
          → Alike (if b then f else if c then f else given_or f (reduced_run i e f)) f
      by true has c = alike_self f
      by false has true = alike_self f
      by false has false = given_alike i e f same has zero (reduced_run i e f) refl

  cleared_alike : (e f : Affine) → Zero e → Alike (cleared e f) f
  cleared_alike e f zero = by (nat_eq (length f.coefficients) (length e.coefficients)) refl
    where
      by : (b : Bool) → nat_eq (length f.coefficients) (length e.coefficients) ≡ b
          → Alike (if b then cleared_at (first_place e.coefficients) e f else f) f
      by true same =
          at_alike (first_place e.coefficients) e f
          (eqb-true (length f.coefficients) (length e.coefficients) same) zero
      by false other = alike_self f

  by_alike : (es : List Affine) (f : Affine) → All Zero es → Alike (cleared_by es f) f
  by_alike [] f all = alike_self f
  by_alike (e ∷ es) f all =
      alike_then (cleared_by es (cleared e f)) (cleared e f) f (by_alike es (cleared e f) (All-tail Zero e es all))
      (cleared_alike e f (All-head Zero e es all))

  -- what is left out says nothing
  nothing : (f : Affine) → (is_constant f && is_zero f.constant) ≡ true → Zero f
  nothing f h =
      let both = both_hold (is_constant f) (is_zero f.constant) h in
      let none = constant_dot f.coefficients xs both.0 in
      let constant = ap (λ (z : ℤ). z *ℤ d) ((is_zero_iff f.constant).0 both.1) in
      omega (arith, ints, none, constant)

  not_below : (z : ℤ) → not (is_negative z) ≡ true → pos 0 ≤ℤ z
  not_below (pos n) h = omega (arith, ints)
  not_below (negsuc n) h = absurd (false≢true h)

  everywhere : (f : Affine) → (is_constant f && not (is_negative f.constant)) ≡ true → Up f
  everywhere f h =
      let both = both_hold (is_constant f) (not (is_negative f.constant)) h in
      let none = constant_dot f.coefficients xs both.0 in
      let up = mul_not_negative f.constant d (not_below f.constant both.1) (omega (arith, ints, positive)) in
      omega (arith, ints, none, up)

  equality_to : (es : List Affine) (f : Affine) → All Zero es → Zero f → All Zero (with_equality es f)
  equality_to es f all own = by (is_constant f && is_zero f.constant)
    where
      by : (b : Bool) → All Zero (if b then es else es ++ f ∷ [])
      by true = all
      by false = All-append Zero es (f ∷ []) all (All-cons Zero f [] own (All-nil Zero))

  equality_from : (es : List Affine) (f : Affine) → All Zero (with_equality es f) → All Zero es × Zero f
  equality_from es f h = by (is_constant f && is_zero f.constant) refl h
    where
      by : (b : Bool) → (is_constant f && is_zero f.constant) ≡ b → All Zero (if b then es else es ++ f ∷ [])
          → All Zero es × Zero f
      by true says all = (all, nothing f says)
      by false says all =
          (all_front Zero es (f ∷ []) all, All-head Zero f [] (all_back Zero es (f ∷ []) all))

  equalities_to : (es fs : List Affine) → All Zero es → All Zero fs → All Zero (with_equalities es fs)
  equalities_to es [] all more = all
  equalities_to es (f ∷ fs) all more =
      equalities_to (with_equality es (cleared_by es f)) fs
      (equality_to es (cleared_by es f) all ((by_alike es f all).0.1 (All-head Zero f fs more)))
      (All-tail Zero f fs more)

  equalities_from : (es fs : List Affine) → All Zero (with_equalities es fs) → All Zero es × All Zero fs
  equalities_from es [] h = (h, All-nil Zero)
  equalities_from es (f ∷ fs) h =
      let rest = equalities_from (with_equality es (cleared_by es f)) fs h in
      let one = equality_from es (cleared_by es f) rest.0 in
      (one.0, All-cons Zero f fs ((by_alike es f one.0).0.0 one.1) rest.1)

  told_to : (rows : List Affine) (f : Affine) → All Up rows → Up f → All Up (with_told rows f)
  told_to rows f all own = by (is_constant f && not (is_negative f.constant))
    where
      by : (b : Bool) → All Up (if b then rows else with_row rows f)
      by true = all
      by false = kept_with Up rows f all own

  told_from : (rows : List Affine) (f : Affine) → All Up (with_told rows f) → All Up rows × Up f
  told_from rows f h = by (is_constant f && not (is_negative f.constant)) refl h
    where
      by : (b : Bool) → (is_constant f && not (is_negative f.constant)) ≡ b
          → All Up (if b then rows else with_row rows f) → All Up rows × Up f
      by true says all = (all, everywhere f says)
      by false says all = both_with d xs positive rows f all

  rows_to : (es rows fs : List Affine) → All Zero es → All Up rows → All Up fs → All Up (with_cleared es rows fs)
  rows_to es rows [] zero all more = all
  rows_to es rows (f ∷ fs) zero all more =
      rows_to es (with_told rows (cleared_by es f)) fs zero
      (told_to rows (cleared_by es f) all ((by_alike es f zero).1.1 (All-head Up f fs more))) (All-tail Up f fs more)

  rows_from : (es rows fs : List Affine) → All Zero es → All Up (with_cleared es rows fs) → All Up rows × All Up fs
  rows_from es rows [] zero h = (h, All-nil Up)
  rows_from es rows (f ∷ fs) zero h =
      let rest = rows_from es (with_told rows (cleared_by es f)) fs zero h in
      let one = told_from rows (cleared_by es f) rest.0 in
      (one.0, All-cons Up f fs ((by_alike es f zero).1.0 one.1) rest.1)

  pub condensed_over : (s : Constraints)
      → HoldsOver s.equalities s.rows d xs ↔ HoldsOver (condensed s).equalities (condensed s).rows d xs
  unfolding own_equalities own_rows
  condensed_over s = (
    λ h.
        let zero = equalities_to [] s.equalities (All-nil Zero) h.0 in
        (zero, rows_to (own_equalities s) [] s.rows zero (All-nil Up) h.1),
    λ h. (
      (equalities_from [] s.equalities h.0).1,
      (rows_from (own_equalities s) [] s.rows h.0 h.1).1,
    ),
  )

pub condensed_points : (s : Constraints) (point : List ℤ) → Satisfies s point ↔ Satisfies (condensed s) point
condensed_points s point =
    let over = condensed_over (pos 1) point (omega (arith, ints)) s in
    let own = whole_point s point in
    let less = whole_point (condensed s) point in
    (λ h. less.0 (over.0 (own.1 h)), λ h. own.0 (over.1 (less.1 h)))
