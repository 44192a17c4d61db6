-- Of which places contexts within loops and under tests speak; what an answer that there is no point means.
use Rattle.tree_simplification.proofs.Common.{◌≡◌, ℕ, suc, ◌+◌, ◌<◌, ◌≤◌, ℤ, pos, List, [], ◌∷◌, ◌++◌, length, map}
use Rattle.tree_simplification.proofs.Common.{get_or, All, inl, inr, ap, subst, sym, ◌∙◌, refl, arith, length-append}
use Rattle.tree_simplification.proofs.Common.{le_z, if◌then◌else◌, ◌↔◌, Bool, true, false, not, ◌-ℤ◌, ◌*ℤ◌, ◌≤ℤ◌, ◌<ℤ◌}
use Rattle.tree_simplification.proofs.Common.{ints, All-append, All-cons, All-head, All-nil, All-tail, Affine, value_of}
use Rattle.tree_simplification.proofs.Common.{widened, floor, ceiling, NotNegative, multiples, length-multiples}
use Rattle.tree_simplification.proofs.Common.{floor_is, le_or_lt, mul_one_left, length-widened, both, holds_le_z}
use Rattle.tree_simplification.proofs.Common.{le_z_holds, variables_of, system_of, IsBoundedPoint, form_in}
use Rattle.tree_simplification.proofs.Common.{AreBounds, Bound, Bounds, only, besides, bounds_of, at_least, equal}
use Rattle.tree_simplification.proofs.Common.{multiple, all_hold, holds, lower, upper, ArePartsOver, Context}
use Rattle.tree_simplification.proofs.Common.{IsSizedContext, Meets, NaturalAbove, NeverHolds, OnSide, form_row}
use Rattle.tree_simplification.proofs.Common.{part_row, parts, sign_of, tested, tests_rows}
use Rattle.scop_syntax.proofs.Common.{All-from_recursion, All-get_or, All-map, All-weaker, ceiling_at_most, ceiling_is}
use Rattle.scop_syntax.proofs.Common.{floor_at_least, not_negative-append, not_negative_all, cancel_le, mul_zero_left}
use Rattle.scop_syntax.proofs.Common.{range_high, range_low}
use Rattle.std.proofs.lemmas.List.Edits.{length-insert}
use Rattle.whole_numbers.proofs.Lists.{dot_not_negative}
use Rattle.loop_tree.specs.Tree.{Test}
use Rattle.loop_tree.proofs.Extremes.{above_min, below_max, max_below, min_above}
use Rattle.tree_simplification.specs.steps.Context.{Hold, NeverSpeaks, sided, test_rows}
use Rattle.tree_simplification.proofs.RowValues.{opposite_side, turned_is, value_form_row, value_part_row}
use Rattle.tree_simplification.proofs.RowValues.{value_widened}

-- what is not false
pub denied : (b : Bool) → not b ≡ false → b ≡ true
denied true h = refl
denied false h = sym h

-- rows that hold, one behind the other
hold_append : (fs gs : List Affine) (point : List ℤ) → Hold fs point → Hold gs point → Hold (fs ++ gs) point
hold_append [] gs point h k = k
hold_append (f ∷ fs) gs point h k = (h.0, hold_append fs gs point h.1 k)

hold_widened : (fs : List Affine) (outer params : List ℤ) (x : ℤ) → Hold fs (outer ++ params)
    → Hold (map (widened (length outer)) fs) ((outer ++ x ∷ []) ++ params)
hold_widened [] outer params x h = tt
hold_widened (f ∷ fs) outer params x h = (
  subst (λ v. pos 0 ≤ℤ v) (sym (value_widened (length outer) f outer params x refl)) h.0,
  hold_widened fs outer params x h.1,
)

-- parts of bounds of which a value is on the right side, as rows
hold_side : (turned : Bool) (bs : List Bound) (outer params : List ℤ) (x : ℤ)
    → All (λ b. variables_of b.form ≡ length outer + length params) bs → OnSide turned bs (outer ++ params) x
    → Hold (map (part_row (length outer) turned false) bs) ((outer ++ x ∷ []) ++ params)
hold_side turned [] outer params x sized h = tt
hold_side turned (b ∷ bs) outer params x sized h =
    let P : Bound → Type 0 = λ b. variables_of b.form ≡ length outer + length params in
    let v = value_part_row b turned false outer params x (All-head P b bs sized) in
    let z = h.0 in
    (omega (arith, ints, v, z), hold_side turned bs outer params x (All-tail P b bs sized) h.1)

-- the variables that a context speaks of
counted : (c : Context) (params outer : List ℤ) → Meets c params outer
    → c.loops + c.parameters ≡ length outer + length params
counted c params outer m = let a = m.loops_are in let b = m.parameters_are in omega (arith, a, b)

-- forms speak of as many
forms_counted : (c : Context) (params outer : List ℤ) → Meets c params outer → (bs : List Bound)
    → All (λ b. variables_of b.form ≡ c.loops + c.parameters) bs
    → All (λ b. variables_of b.form ≡ length outer + length params) bs
forms_counted c params outer m bs h =
    subst (λ (n : ℕ). All (λ b. variables_of b.form ≡ n) bs) (counted c params outer m) h

-- a value between bounds is one of which the context within the loop speaks
pub meets_sided : (c : Context) (turned natural : Bool) (bs others : List Bound) (params outer : List ℤ) (x : ℤ)
    → All (λ b. variables_of b.form ≡ c.loops + c.parameters) bs
    → All (λ b. variables_of b.form ≡ c.loops + c.parameters) others → Meets c params outer
    → OnSide turned bs (outer ++ params) x → OnSide (not turned) others (outer ++ params) x
    → (natural ≡ true → NotNegative (outer ++ x ∷ []))
    → Meets (sided c turned bs others natural) params (outer ++ x ∷ [])
meets_sided c turned natural bs others params outer x over others_over m on others_on whole =
    let front = hold_widened c.rows outer params x m.inside in
    let here = hold_side turned bs outer params x (forms_counted c params outer m bs over) on in
    let others_counted = forms_counted c params outer m others others_over in
    let there = hold_side (not turned) others outer params x others_counted others_on in
    let n = length outer in
    let point = (outer ++ x ∷ []) ++ params in
    let all =
    hold_append (map (widened n) c.rows)
    (map (part_row n turned false) bs ++ map (part_row n (not turned) false) others) point front
    (hold_append (map (part_row n turned false) bs) (map (part_row n (not turned) false) others) point here there) in
    let l = length-append outer (x ∷ []) in
    let k = m.loops_are in
    record {
      loops_are = omega (arith, l, k);
      parameters_are = m.parameters_are;
      range = m.range;
      whole = whole;
      inside = subst (λ (k : ℕ). Hold (map (widened k) c.rows
          ++ (map (part_row k turned false) bs ++ map (part_row k (not turned) false) others)) point) m.loops_are all;
    }

-- tests that hold, as rows
test_holds : (test : Test) (point : List ℤ) → holds test point ≡ true → Hold (test_rows test) point
test_holds (at_least f) point h =
    let v = value_form_row f false false point in
    let o = mul_one_left (value_of f point) in
    let p = holds_le_z (pos 0) (value_of f point) h in
    (omega (arith, ints, v, o, p), tt)
test_holds (equal f) point h =
    let v = value_form_row f false false point in
    let w = value_form_row f true false point in
    let o = mul_one_left (value_of f point) in
    let n = turned_is (value_of f point) in
    let q = both _ _ h in
    let a = holds_le_z (pos 0) (value_of f point) q.0 in
    let b = holds_le_z (value_of f point) (pos 0) q.1 in
    (omega (arith, ints, v, o, a), (omega (arith, ints, w, n, b), tt))
test_holds (multiple f d) point h = tt

tests_hold : (tests : List Test) (point : List ℤ) → all_hold tests point ≡ true → Hold (tests_rows tests) point
tests_hold [] point h = tt
tests_hold (test ∷ tests) point h =
    let q = both _ _ h in
    hold_append (test_rows test) (tests_rows tests) point (test_holds test point q.0) (tests_hold tests point q.1)

-- where tests hold, the context under them speaks
pub meets_tested : (c : Context) (tests : List Test) (params outer : List ℤ) → Meets c params outer
    → all_hold tests (outer ++ params) ≡ true → Meets (tested c tests) params outer
meets_tested c tests params outer m h =
    record {
      loops_are = m.loops_are;
      parameters_are = m.parameters_are;
      range = m.range;
      whole = m.whole;
      inside = hold_append c.rows (tests_rows tests) (outer ++ params) m.inside (tests_hold tests (outer ++ params) h);
    }

-- how many variables rows speak of
pub sized_part : (n : ℕ) (turned less : Bool) (b : Bound) → n ≤ variables_of b.form
    → variables_of (part_row n turned less b) ≡ suc (variables_of b.form)
sized_part n turned less b h =
    let cs = b.form.coefficients in
    let s = sign_of turned in
    let m = length-multiples s cs in
    let i = length-insert (multiples s cs) n (sign_of (not turned) *ℤ b.divisor) (omega (arith, m, h)) in
    omega (arith, m, i)

pub sized_sided : (c : Context) (turned natural : Bool) (bs others : List Bound) → IsSizedContext c
    → All (λ b. variables_of b.form ≡ c.loops + c.parameters) bs
    → All (λ b. variables_of b.form ≡ c.loops + c.parameters) others
    → IsSizedContext (sided c turned bs others natural)
sized_sided c turned natural bs others sized over others_over =
    let n = c.loops in
    let total = c.loops + c.parameters in
    let P : Affine → Type 0 = λ f. variables_of f ≡ suc n + c.parameters in
    let one : (side : Bool) (b : Bound) → variables_of b.form ≡ total → P (part_row n side false b) =
    λ side b e. let s = sized_part n side false b (omega (arith, e)) in omega (arith, e, s) in
    let wide : (f : Affine) → variables_of f ≡ total → P (widened n f) =
    λ f e. let s = length-widened n f.coefficients in omega (arith, e, s) in
    All-append P (map (widened n) c.rows)
    (map (part_row n turned false) bs ++ map (part_row n (not turned) false) others)
    (All-map P (widened n) c.rows (All-weaker (λ f. variables_of f ≡ total) (λ f. P (widened n f)) wide c.rows sized))
    (All-append P (map (part_row n turned false) bs) (map (part_row n (not turned) false) others)
    (All-map P (part_row n turned false) bs
    (All-weaker (λ b. variables_of b.form ≡ total) (λ b. P (part_row n turned false b)) (one turned) bs over))
    (All-map P (part_row n (not turned) false) others
    (All-weaker (λ b. variables_of b.form ≡ total) (λ b. P (part_row n (not turned) false b)) (one (not turned)) others
    others_over)))

pub sized_form : (turned less : Bool) (f : Affine) → variables_of (form_row turned less f) ≡ variables_of f
sized_form turned less f = length-multiples (sign_of turned) f.coefficients

sized_test : (n : ℕ) (test : Test) → variables_of (form_in test) ≡ n → All (λ f. variables_of f ≡ n) (test_rows test)
sized_test n (at_least f) h =
    let P : Affine → Type 0 = λ f. variables_of f ≡ n in
    All-cons P (form_row false false f) [] (sized_form false false f ∙ h) (All-nil P)
sized_test n (equal f) h =
    let P : Affine → Type 0 = λ f. variables_of f ≡ n in
    All-cons P (form_row false false f) (form_row true false f ∷ []) (sized_form false false f ∙ h)
    (All-cons P (form_row true false f) [] (sized_form true false f ∙ h) (All-nil P))
sized_test n (multiple f d) h = All-nil (λ (f : Affine). variables_of f ≡ n)

sized_tests : (n : ℕ) (tests : List Test) → All (λ test. variables_of (form_in test) ≡ n) tests
    → All (λ f. variables_of f ≡ n) (tests_rows tests)
sized_tests n [] h = All-nil (λ (f : Affine). variables_of f ≡ n)
sized_tests n (test ∷ tests) h =
    let P : Test → Type 0 = λ test. variables_of (form_in test) ≡ n in
    All-append (λ f. variables_of f ≡ n) (test_rows test) (tests_rows tests)
    (sized_test n test (All-head P test tests h)) (sized_tests n tests (All-tail P test tests h))

pub sized_tested : (c : Context) (tests : List Test) → IsSizedContext c
    → All (λ test. variables_of (form_in test) ≡ c.loops + c.parameters) tests → IsSizedContext (tested c tests)
sized_tested c tests sized over =
    All-append (λ f. variables_of f ≡ c.loops + c.parameters) c.rows (tests_rows tests) sized
    (sized_tests (c.loops + c.parameters) tests over)

-- bounds and their parts
low_side : (b : Bound) (point : List ℤ) (x : ℤ) → pos 0 <ℤ b.divisor
    → (ceiling (value_of b.form point) b.divisor ≤ℤ x)
    ↔ (pos 0 ≤ℤ (sign_of true *ℤ (value_of b.form point -ℤ (x *ℤ b.divisor))))
low_side b point x h =
    let v = value_of b.form point in
    let i = ceiling_at_most v b.divisor (ceiling v b.divisor) x h (ceiling_is v b.divisor h) in
    let t = turned_is (v -ℤ (x *ℤ b.divisor)) in
    ((λ k. let q = i.0 k in omega (arith, ints, q, t)), (λ k. i.1 (omega (arith, ints, k, t))))

high_side : (b : Bound) (point : List ℤ) (x : ℤ) → pos 0 <ℤ b.divisor
    → (x ≤ℤ floor (value_of b.form point) b.divisor)
    ↔ (pos 0 ≤ℤ (sign_of false *ℤ (value_of b.form point -ℤ (x *ℤ b.divisor))))
high_side b point x h =
    let v = value_of b.form point in
    let i = floor_at_least v b.divisor (floor v b.divisor) x h (floor_is v b.divisor h) in
    let t = mul_one_left (v -ℤ (x *ℤ b.divisor)) in
    ((λ k. let q = i.0 k in omega (arith, ints, q, t)), (λ k. i.1 (omega (arith, ints, k, t))))

pub low_to : (bs : Bounds) (point : List ℤ) (x : ℤ) → AreBounds bs → lower bs point ≤ℤ x
    → OnSide true (parts bs) point x
low_to (only b) point x h l = ((low_side b point x h).0 l, tt)
low_to (besides b bs) point x h l =
    let p = below_max (ceiling (value_of b.form point) b.divisor) (lower bs point) x l in
    ((low_side b point x h.0).0 p.0, low_to bs point x h.1 p.1)

pub low_from : (bs : Bounds) (point : List ℤ) (x : ℤ) → AreBounds bs → OnSide true (parts bs) point x
    → lower bs point ≤ℤ x
low_from (only b) point x h l = (low_side b point x h).1 l.0
low_from (besides b bs) point x h l =
    max_below (ceiling (value_of b.form point) b.divisor) (lower bs point) x ((low_side b point x h.0).1 l.0)
    (low_from bs point x h.1 l.1)

pub high_to : (bs : Bounds) (point : List ℤ) (x : ℤ) → AreBounds bs → x ≤ℤ upper bs point
    → OnSide false (parts bs) point x
high_to (only b) point x h l = ((high_side b point x h).0 l, tt)
high_to (besides b bs) point x h l =
    let p = min_above (floor (value_of b.form point) b.divisor) (upper bs point) x l in
    ((high_side b point x h.0).0 p.0, high_to bs point x h.1 p.1)

pub high_from : (bs : Bounds) (point : List ℤ) (x : ℤ) → AreBounds bs → OnSide false (parts bs) point x
    → x ≤ℤ upper bs point
high_from (only b) point x h l = (high_side b point x h).1 l.0
high_from (besides b bs) point x h l =
    above_min (floor (value_of b.form point) b.divisor) (upper bs point) x ((high_side b point x h.0).1 l.0)
    (high_from bs point x h.1 l.1)

-- what an answer that there is no point means
pub never_from : (c : Context) (row : Affine) → c.natural ≡ true
    → ((x p : List ℤ) → IsBoundedPoint (system_of c.loops c.parameters [] (c.rows ++ row ∷ [])) x p → ⊥)
    → NeverHolds c row
never_from c row natural empty params outer m =
    let point = outer ++ params in
    let P : Affine → Type 0 = λ f. pos 0 ≤ℤ value_of f point in
    let low : All (λ z. pos 0 ≤ℤ z) params = range_low params m.range in
    elim (le_or_lt (pos 0) (value_of row point)) [
      | inr h ↦ h
      | inl h ↦ absurd (empty outer params (record {
        dimensions = m.loops_are;
        parameters = m.parameters_are;
        not_negative = not_negative-append outer params (m.whole natural) ((not_negative_all params).1 low);
        bounded = range_high params m.range;
        inside = (
          All-nil (λ (f : Affine). value_of f point ≡ pos 0),
          All-append P c.rows (row ∷ [])
              (All-from_recursion P c.rows m.inside) (All-cons P row [] h (All-nil P)),
        );
      }))
    ]

pub never_speaks_from : (c : Context) → c.natural ≡ true
    → ((x p : List ℤ) → IsBoundedPoint (system_of c.loops c.parameters [] c.rows) x p → ⊥) → NeverSpeaks c
never_speaks_from c natural empty params outer m =
    let point = outer ++ params in
    let P : Affine → Type 0 = λ f. pos 0 ≤ℤ value_of f point in
    let low : All (λ z. pos 0 ≤ℤ z) params = range_low params m.range in
    empty outer params (record {
      dimensions = m.loops_are;
      parameters = m.parameters_are;
      not_negative = not_negative-append outer params (m.whole natural) ((not_negative_all params).1 low);
      bounded = range_high params m.range;
      inside = (All-nil (λ (f : Affine). value_of f point ≡ pos 0), All-from_recursion P c.rows m.inside);
    })

-- a part that with one more is never exceeded
pub implied_part : (c : Context) (turned : Bool) (bs others : List Bound) (b : Bound)
    → ArePartsOver (c.loops + c.parameters) bs → ArePartsOver (c.loops + c.parameters) others
    → variables_of b.form ≡ c.loops + c.parameters
    → NeverHolds (sided c turned bs others true) (part_row c.loops (not turned) true b)
    → (params outer : List ℤ) → Meets c params outer → (x : ℤ) → NotNegative (outer ++ x ∷ [])
    → OnSide turned bs (outer ++ params) x → OnSide (not turned) others (outer ++ params) x
    → OnSide turned (b ∷ []) (outer ++ params) x
implied_part c turned bs others b over others_over h never params outer m x whole on others_on =
    let inner =
    meets_sided c turned true bs others params outer x over.forms others_over.forms m on others_on (λ _. whole) in
    let below = never params (outer ++ x ∷ []) inner in
    let here : value_of (part_row (length outer) (not turned) true b) ((outer ++ x ∷ []) ++ params) <ℤ pos 0 =
    subst (λ (k : ℕ). value_of (part_row k (not turned) true b) ((outer ++ x ∷ []) ++ params) <ℤ pos 0)
    (sym m.loops_are) below in
    let v = value_part_row b (not turned) true outer params x (h ∙ counted c params outer m) in
    (opposite_side turned (value_of b.form (outer ++ params) -ℤ (x *ℤ b.divisor)) (subst (λ z. z <ℤ pos 0) v here), tt)

-- forms that are at least 0, by their numbers or by an answer
pub natural_value : (f : Affine) (c : Context) (params outer : List ℤ) → c.natural ≡ true → Meets c params outer
    → NotNegative f.coefficients → pos 0 ≤ℤ f.constant → pos 0 ≤ℤ value_of f (outer ++ params)
natural_value f c params outer natural m coefficients constant =
    let low : All (λ z. pos 0 ≤ℤ z) params = range_low params m.range in
    let point = not_negative-append outer params (m.whole natural) ((not_negative_all params).1 low) in
    let d = dot_not_negative f.coefficients (outer ++ params) coefficients point in
    omega (arith, ints, d, constant)

pub up_from : (f : Affine) (point : List ℤ) → value_of (form_row true true f) point <ℤ pos 0
    → pos 0 ≤ℤ value_of f point
up_from f point h =
    let v = value_form_row f true true point in
    let t = turned_is (value_of f point) in
    omega (arith, ints, v, t, h)

pub down_from : (f : Affine) (point : List ℤ) → value_of (form_row false true f) point <ℤ pos 0
    → value_of f point ≤ℤ pos 0
down_from f point h =
    let v = value_form_row f false true point in
    let t = mul_one_left (value_of f point) in
    omega (arith, ints, v, t, h)

-- a value at or above a form that is at least 0 is so, too
pub natural_above : (b : Bound) (point : List ℤ) (x : ℤ) → pos 0 <ℤ b.divisor → pos 0 ≤ℤ value_of b.form point
    → pos 0 ≤ℤ (sign_of true *ℤ (value_of b.form point -ℤ (x *ℤ b.divisor))) → pos 0 ≤ℤ x
natural_above b point x positive low h =
    let t = turned_is (value_of b.form point -ℤ (x *ℤ b.divisor)) in
    let z = mul_zero_left b.divisor in
    cancel_le (pos 0) x b.divisor positive (omega (arith, ints, t, z, low, h))

-- a test that holds because 1 less than its form, or than the opposite, never does
pub implied_up : (c : Context) (f : Affine) → NeverHolds c (form_row true true f) → (params outer : List ℤ)
    → Meets c params outer → holds (at_least f) (outer ++ params) ≡ true
implied_up c f never params outer m =
    le_z_holds (pos 0) (value_of f (outer ++ params)) (up_from f (outer ++ params) (never params outer m))

pub implied_equal : (c : Context) (f : Affine) → NeverHolds c (form_row true true f)
    → NeverHolds c (form_row false true f) → (params outer : List ℤ)
    → Meets c params outer → holds (equal f) (outer ++ params) ≡ true
implied_equal c f never never_below params outer m =
    let point = outer ++ params in
    let v = value_of f point in
    let a = le_z_holds (pos 0) v (up_from f point (never params outer m)) in
    let b = le_z_holds v (pos 0) (down_from f point (never_below params outer m)) in
    ap (λ t. if t then le_z v (pos 0) else false) a ∙ b

-- a form that is at least 0 because its opposite less 1 never is
pub natural_asked : (c : Context) (f : Affine) → NeverHolds (tested c []) (form_row true true f)
    → (params outer : List ℤ) → Meets c params outer → pos 0 ≤ℤ value_of f (outer ++ params)
natural_asked c f never params outer m =
    up_from f (outer ++ params) (never params outer (meets_tested c [] params outer m refl))

-- one of lower bounds is at least 0 wherever the context speaks
pub natural_part : (c : Context) (los : List Bound) (i : ℕ) (b : Bound) → ArePartsOver (c.loops + c.parameters) los
    → b ≡ get_or los i b → i < length los → c.natural ≡ true
    → ((params outer : List ℤ) → Meets c params outer → pos 0 ≤ℤ value_of b.form (outer ++ params))
    → NaturalAbove c los
natural_part c los i b over is inside natural up params outer m x on =
    let point = outer ++ params in
    let P : Bound → Type 0 = λ b. pos 0 ≤ℤ (sign_of true *ℤ (value_of b.form point -ℤ (x *ℤ b.divisor))) in
    let D : Bound → Type 0 = λ b. pos 0 <ℤ b.divisor in
    let here : P b = subst P (sym is) (All-get_or P los i b inside (All-from_recursion P los on)) in
    let positive : D b = subst D (sym is) (All-get_or D los i b inside over.divisors) in
    not_negative-append outer (x ∷ []) (m.whole natural)
    (natural_above b point x positive (up params outer m) here, tt)

-- the first part and the others
pub parts_behind : (b : Bound) (bs : List Bound) → parts (bounds_of b bs) ≡ b ∷ bs
parts_behind b [] = refl
parts_behind b (a ∷ bs) = ap (λ xs. b ∷ xs) (parts_behind a bs)
