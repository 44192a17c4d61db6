-- Calls of the four functions, expressions of bounds and tests are worth what the tree says, where numbers fit.
use Rattle.scop_syntax.proofs.Common.{◌≡◌, ◌∙◌, ap, sym, subst, refl, T, not, ℕ, zero, suc, ◌+◌, ◌<◌, ◌≤◌, ◌^◌, Bool}
use Rattle.scop_syntax.proofs.Common.{true, false, ◌&&◌, if◌then◌else◌, ℤ, pos, negsuc, neg_ℤ, ◌+ℤ◌, ◌-ℤ◌, ◌*ℤ◌, ◌≤ℤ◌}
use Rattle.scop_syntax.proofs.Common.{◌<ℤ◌, List, [], ◌∷◌, ◌++◌, length, arith, ints, Option, Some, unsigned_abs}
use Rattle.scop_syntax.proofs.Common.{value_of, floor, ceiling, floor_is, mul_comm_int, le_z, le_z_holds, holds_le_z}
use Rattle.scop_syntax.proofs.Common.{abs_at_most, abs_high, abs_low, map}
use Rattle.whole_numbers.proofs.Common.{div-le_self}
use Rattle.std.specs.Int.Signed.{lt_z, quot_z, lt_z_yes, lt_z_no}
use Rattle.form_text.specs.Reading.{when}
use Rattle.loop_tree.specs.Tree.{Bounds, only, besides, Test, at_least, equal, multiple}
use Rattle.loop_tree.specs.Walk.{lower, upper, holds, all_hold, max_z, min_z}
use Rattle.loop_tree.specs.Marks.{AreBounds, IsTest, AreTests}
use Rattle.c_printer.specs.Divisions.{floor_function, ceiling_function, greater_function, less_function}
use Rattle.c_printer.specs.Nodes.{is_one}
use Rattle.c_printer.proofs.Divisions.{is_floor, is_ceiling, is_greater, is_less, floor_of_one, ceiling_of_one}
use Rattle.c_meaning.specs.Syntax as c
use Rattle.loop_tree.specs.Fits.{form_in}
use Rattle.c_meaning.proofs.FormWorths.{kept_wide, kept_of, two, some_same, opposite_fits, integer_worth, second_wide}
use Rattle.c_meaning.proofs.FormWorths.{tree_form_worth}
use Rattle.c_meaning.specs.Syntax.{Expression, floord, ceild, greater_of, less_of, number, product, difference, call}
use Rattle.c_meaning.specs.Expressions.{kept, is_int, called, worth, divided, compared, both, all_of, related}
use Rattle.c_meaning.specs.Programs.{integer, tree_expression, bound_expression, lower_expression, upper_expression}
use Rattle.c_meaning.specs.Programs.{comparison}
use Rattle.c_meaning.specs.Narrow.{Fits, QuotientFits, BoundsFit, TestFits, TestsFit}
use Rattle.c_meaning.specs.steps.Law.{IsOver, BoundsAreOver, TestsAreOver}

pub holds_lt_z : (a b : ℤ) → lt_z a b ≡ true → a <ℤ b
holds_lt_z a b e = lt_z_yes (subst T (sym e) tt)

pub fails_lt_z : (a b : ℤ) → lt_z a b ≡ false → b ≤ℤ a
fails_lt_z a b e = lt_z_no (subst (λ x. T (not x)) (sym e) tt)

quot_size : (a d : ℤ) → pos 0 ≤ℤ a → pos 0 <ℤ d → unsigned_abs (quot_z a d) ≤ unsigned_abs a
quot_size (pos a) (pos d) h g = div-le_self a d
quot_size (negsuc a) d h g = absurd (omega (arith, ints, h))
quot_size (pos a) (negsuc d) h g = absurd (omega (arith, ints, g))

divided_is : (a d : ℤ) → pos 0 <ℤ d → Fits (quot_z a d) → divided false a d ≡ Some (quot_z a d)
divided_is a (pos zero) h f = absurd (omega (arith, ints, h))
divided_is a (pos (suc n)) h f = kept_wide (quot_z a (pos (suc n))) f
divided_is a (negsuc n) h f = absurd (omega (arith, ints, h))

-- between two numbers of a size
pub size_between : (z : ℤ) (k : ℕ) → neg_ℤ (pos k) ≤ℤ z → z ≤ℤ pos k → k < 2 ^ 63 → Fits z
size_between z k low high small = let m = abs_at_most z k low high in omega (arith, m, small)

-- of a number that is not negative the quotient fits where the number does
quot_fits : (a d : ℤ) → pos 0 ≤ℤ a → pos 0 <ℤ d → Fits a → Fits (quot_z a d)
quot_fits a d h g f = let s = quot_size a d h g in omega (arith, s, f)

floor_called : (z d : ℤ) → pos 0 <ℤ d → QuotientFits z d → called floord z d ≡ Some (floor_function z d)
floor_called z d h f = by_sign (lt_z z (pos 0)) refl
  where
    m : ℤ
    m = (neg_ℤ z +ℤ d) -ℤ pos 1

    by_sign : (t : Bool) → lt_z z (pos 0) ≡ t
        → (if t
        then when (when (when (when (kept false (neg_ℤ z)) (λ a. kept false (a +ℤ d)))
        (λ a. kept false (a -ℤ pos 1))) (λ a. divided false a d)) (λ a. kept false (neg_ℤ a))
        else divided false z d)
        ≡ Some (if t then neg_ℤ (quot_z m d) else quot_z z d)
    by_sign true e =
        let l = holds_lt_z z (pos 0) e in
        let zl = abs_low z in
        let dh = abs_high d in
        let k = unsigned_abs z + unsigned_abs d in
        let f1 : Fits (neg_ℤ z) = opposite_fits z (omega (arith, f)) in
        let f2 : Fits (neg_ℤ z +ℤ d) =
        size_between (neg_ℤ z +ℤ d) k (omega (arith, ints, l, h)) (omega (arith, ints, zl, dh)) f in
        let f3 : Fits m = size_between m k (omega (arith, ints, l, h)) (omega (arith, ints, zl, dh)) f in
        let f4 : Fits (quot_z m d) = quot_fits m d (omega (arith, ints, l, h)) h f3 in
        ap (λ (o : Option ℤ). when (when (when (when o (λ a. kept false (a +ℤ d)))
        (λ a. kept false (a -ℤ pos 1))) (λ a. divided false a d)) (λ a. kept false (neg_ℤ a))) (kept_wide (neg_ℤ z) f1)
        ∙ (ap (λ (o : Option ℤ). when (when (when o (λ a. kept false (a -ℤ pos 1))) (λ a. divided false a d))
        (λ a. kept false (neg_ℤ a))) (kept_wide (neg_ℤ z +ℤ d) f2)
        ∙ (ap (λ (o : Option ℤ). when (when o (λ a. divided false a d)) (λ a. kept false (neg_ℤ a))) (kept_wide m f3)
        ∙ (ap (λ (o : Option ℤ). when o (λ a. kept false (neg_ℤ a))) (divided_is m d h f4)
        ∙ kept_wide (neg_ℤ (quot_z m d)) (opposite_fits (quot_z m d) f4))))
    by_sign false e =
        divided_is z d h (quot_fits z d (fails_lt_z z (pos 0) e) h (omega (arith, f)))

ceiling_called : (z d : ℤ) → pos 0 <ℤ d → QuotientFits z d → called ceild z d ≡ Some (ceiling_function z d)
ceiling_called z d h f = by_sign (lt_z z (pos 0)) refl
  where
    m : ℤ
    m = (z +ℤ d) -ℤ pos 1

    by_sign : (t : Bool) → lt_z z (pos 0) ≡ t
        → (if t then when (when (kept false (neg_ℤ z)) (λ a. divided false a d)) (λ a. kept false (neg_ℤ a))
        else when (when (kept false (z +ℤ d)) (λ a. kept false (a -ℤ pos 1))) (λ a. divided false a d))
        ≡ Some (if t then neg_ℤ (quot_z (neg_ℤ z) d) else quot_z m d)
    by_sign true e =
        let l = holds_lt_z z (pos 0) e in
        let f1 : Fits (neg_ℤ z) = opposite_fits z (omega (arith, f)) in
        let f4 : Fits (quot_z (neg_ℤ z) d) = quot_fits (neg_ℤ z) d (omega (arith, ints, l)) h f1 in
        ap (λ (o : Option ℤ). when (when o (λ a. divided false a d)) (λ a. kept false (neg_ℤ a))) (kept_wide (neg_ℤ z) f1)
        ∙ (ap (λ (o : Option ℤ). when o (λ a. kept false (neg_ℤ a))) (divided_is (neg_ℤ z) d h f4)
        ∙ kept_wide (neg_ℤ (quot_z (neg_ℤ z) d)) (opposite_fits (quot_z (neg_ℤ z) d) f4))
    by_sign false e =
        let l = fails_lt_z z (pos 0) e in
        let zh = abs_high z in
        let dh = abs_high d in
        let k = unsigned_abs z + unsigned_abs d in
        let f2 : Fits (z +ℤ d) = size_between (z +ℤ d) k (omega (arith, ints, l, h)) (omega (arith, ints, zh, dh)) f in
        let f3 : Fits m = size_between m k (omega (arith, ints, l, h)) (omega (arith, ints, zh, dh)) f in
        ap (λ (o : Option ℤ). when (when o (λ a. kept false (a -ℤ pos 1))) (λ a. divided false a d))
        (kept_wide (z +ℤ d) f2)
        ∙ (ap (λ (o : Option ℤ). when o (λ a. divided false a d)) (kept_wide m f3)
        ∙ divided_is m d h (quot_fits m d (omega (arith, ints, l, h)) h f3))

some_if : (t : Bool) (a b : ℤ) → (if t then Some a else Some b) ≡ Some (if t then a else b)
some_if true a b = refl
some_if false a b = refl

pub floord_is : (z d : ℤ) → pos 0 <ℤ d → QuotientFits z d → called floord z d ≡ Some (floor z d)
floord_is z d h f = floor_called z d h f ∙ some_same (floor_function z d) (floor z d) (is_floor z d h)

pub ceild_is : (z d : ℤ) → pos 0 <ℤ d → QuotientFits z d → called ceild z d ≡ Some (ceiling z d)
ceild_is z d h f = ceiling_called z d h f ∙ some_same (ceiling_function z d) (ceiling z d) (is_ceiling z d h)

pub greater_is : (a b : ℤ) → called greater_of a b ≡ Some (max_z a b)
greater_is a b = some_if (lt_z b a) a b ∙ some_same (greater_function a b) (max_z a b) (is_greater a b)

pub less_is : (a b : ℤ) → called less_of a b ≡ Some (min_z a b)
less_is a b = some_if (lt_z a b) a b ∙ some_same (less_function a b) (min_z a b) (is_less a b)

floor_over : (p : List ℤ) (e : Expression) (v d : ℤ) → worth p e ≡ Some v → pos 0 <ℤ d → QuotientFits v d
    → worth p (call floord e (integer d)) ≡ Some (floor v d)
floor_over p e v d is h f =
    two (worth p e) (worth p (integer d)) v d (λ a b. called floord a b) is (integer_worth p d (omega (arith, f)))
    ∙ floord_is v d h f

upper_over : (p : List ℤ) (e : Expression) (v d : ℤ) → worth p e ≡ Some v → pos 0 <ℤ d → QuotientFits v d
    → worth p (if is_one d then e else call floord e (integer d)) ≡ Some (floor v d)
upper_over p e v (pos zero) is h f = absurd (omega (arith, ints, h))
upper_over p e v (pos (suc zero)) is h f = is ∙ some_same v (floor v (pos 1)) (sym (floor_of_one v))
upper_over p e v (pos (suc (suc n))) is h f = floor_over p e v (pos (suc (suc n))) is h f
upper_over p e v (negsuc n) is h f = absurd (omega (arith, ints, h))

ceiling_over : (p : List ℤ) (e : Expression) (v d : ℤ) → worth p e ≡ Some v → pos 0 <ℤ d → QuotientFits v d
    → worth p (call ceild e (integer d)) ≡ Some (ceiling v d)
ceiling_over p e v d is h f =
    two (worth p e) (worth p (integer d)) v d (λ a b. called ceild a b) is (integer_worth p d (omega (arith, f)))
    ∙ ceild_is v d h f

lower_over : (p : List ℤ) (e : Expression) (v d : ℤ) → worth p e ≡ Some v → pos 0 <ℤ d → QuotientFits v d
    → worth p (if is_one d then e else call ceild e (integer d)) ≡ Some (ceiling v d)
lower_over p e v (pos zero) is h f = absurd (omega (arith, ints, h))
lower_over p e v (pos (suc zero)) is h f = is ∙ some_same v (ceiling v (pos 1)) (sym (ceiling_of_one v))
lower_over p e v (pos (suc (suc n))) is h f = ceiling_over p e v (pos (suc (suc n))) is h f
lower_over p e v (negsuc n) is h f = absurd (omega (arith, ints, h))

pub upper_worth : (params outer : List ℤ) (bs : Bounds) → AreBounds bs → BoundsAreOver params outer bs
    → BoundsFit bs params outer
    → worth (params ++ outer) (upper_expression (length params) (length outer) bs) ≡ Some (upper bs (outer ++ params))
upper_worth params outer (only b) h o f =
    upper_over (params ++ outer) (tree_expression (length params) (length outer) b.form)
    (value_of b.form (outer ++ params)) b.divisor (tree_form_worth params outer b.form o f.form) h f.quotient
upper_worth params outer (besides b bs) h o f =
    let z = floor (value_of b.form (outer ++ params)) b.divisor in
    two (worth (params ++ outer) (bound_expression floord (length params) (length outer) b))
    (worth (params ++ outer) (upper_expression (length params) (length outer) bs)) z (upper bs (outer ++ params))
    (λ x y. called less_of x y)
    (upper_over (params ++ outer) (tree_expression (length params) (length outer) b.form)
    (value_of b.form (outer ++ params)) b.divisor (tree_form_worth params outer b.form o.0 f.0.form) h.0 f.0.quotient)
    (upper_worth params outer bs h.1 o.1 f.1)
    ∙ less_is z (upper bs (outer ++ params))

pub lower_worth : (params outer : List ℤ) (bs : Bounds) → AreBounds bs → BoundsAreOver params outer bs
    → BoundsFit bs params outer
    → worth (params ++ outer) (lower_expression (length params) (length outer) bs) ≡ Some (lower bs (outer ++ params))
lower_worth params outer (only b) h o f =
    lower_over (params ++ outer) (tree_expression (length params) (length outer) b.form)
    (value_of b.form (outer ++ params)) b.divisor (tree_form_worth params outer b.form o f.form) h f.quotient
lower_worth params outer (besides b bs) h o f =
    let z = ceiling (value_of b.form (outer ++ params)) b.divisor in
    two (worth (params ++ outer) (bound_expression ceild (length params) (length outer) b))
    (worth (params ++ outer) (lower_expression (length params) (length outer) bs)) z (lower bs (outer ++ params))
    (λ x y. called greater_of x y)
    (lower_over (params ++ outer) (tree_expression (length params) (length outer) b.form)
    (value_of b.form (outer ++ params)) b.divisor (tree_form_worth params outer b.form o.0 f.0.form) h.0 f.0.quotient)
    (lower_worth params outer bs h.1 o.1 f.1)
    ∙ greater_is z (lower bs (outer ++ params))

-- comparisons that say the same
le_same : (a b u v : ℤ) → (a ≤ℤ b → u ≤ℤ v) → (u ≤ℤ v → a ≤ℤ b) → le_z a b ≡ le_z u v
le_same a b u v there back = by_tests (le_z a b) (le_z u v) refl refl
  where
    by_tests : (x y : Bool) → le_z a b ≡ x → le_z u v ≡ y → x ≡ y
    by_tests true true e f = refl
    by_tests false false e f = refl
    by_tests true false e f = sym (le_z_holds u v (there (holds_le_z a b e))) ∙ f
    by_tests false true e f = sym e ∙ le_z_holds a b (back (holds_le_z u v f))

to_zero_worth : (p : List ℤ) (r : c.Relation) (e : Expression) (v : ℤ) → worth p e ≡ Some v
    → compared p (record { relation = r; left = e; right = number 0 }) ≡ Some (related r v (pos 0))
to_zero_worth p r e v is = ap (λ (o : Option ℤ). when o (λ x. Some (related r x (pos 0)))) is

pub test_worth : (params outer : List ℤ) (test : Test) → IsTest test → IsOver params outer (form_in test)
    → TestFits test params outer
    → compared (params ++ outer) (comparison (length params) (length outer) test)
    ≡ Some (holds test (outer ++ params))
test_worth params outer (at_least form) h o f =
    to_zero_worth (params ++ outer) c.at_least (tree_expression (length params) (length outer) form)
    (value_of form (outer ++ params)) (tree_form_worth params outer form o f)
test_worth params outer (equal form) h o f =
    to_zero_worth (params ++ outer) c.equals (tree_expression (length params) (length outer) form)
    (value_of form (outer ++ params)) (tree_form_worth params outer form o f)
test_worth params outer (multiple form d) h o f =
    let p = params ++ outer in
    let e = tree_expression (length params) (length outer) form in
    let v = value_of form (outer ++ params) in
    let is = tree_form_worth params outer form o f.0 in
    let q = floor v d in
    let w = v -ℤ (d *ℤ q) in
    let fl = floor_is v d h in
    let low = fl.below in
    let up = fl.above in
    let vl = abs_low v in
    let vh = abs_high v in
    let dh = abs_high d in
    let k = unsigned_abs v + unsigned_abs d in
    let s = mul_comm_int d q in
    let room : k < 2 ^ 63 = f.1 in
    let fp : Fits (d *ℤ q) =
    size_between (d *ℤ q) k (omega (arith, ints, s, up, vl, dh)) (omega (arith, ints, s, low, vh)) room in
    let fw : Fits w = size_between w k (omega (arith, ints, s, low)) (omega (arith, ints, s, up, dh)) room in
    let a = is_int (integer d) && false in
    let b = is_int e && a in
    let product_is : worth p (product (integer d) (call floord e (integer d))) ≡ Some (d *ℤ q) =
    two (worth p (integer d)) (worth p (call floord e (integer d))) d q (λ x y. kept a (x *ℤ y))
    (integer_worth p d (omega (arith, room))) (floor_over p e v d is h room)
    ∙ kept_of a (d *ℤ q) (second_wide (is_int (integer d)) false refl) fp in
    let rest_is : worth p (difference e (product (integer d) (call floord e (integer d)))) ≡ Some w =
    two (worth p e) (worth p (product (integer d) (call floord e (integer d)))) v (d *ℤ q) (λ x y. kept b (x -ℤ y))
    is product_is
    ∙ kept_of b w (second_wide (is_int e) a (second_wide (is_int (integer d)) false refl)) fw in
    to_zero_worth p c.equals (difference e (product (integer d) (call floord e (integer d)))) w rest_is
    ∙ ap (λ (t : Bool). Some t)
    (ap (λ (t : Bool). if t then le_z w (pos 0) else false) (le_z_holds (pos 0) w (omega (arith, ints, s, low)))
    ∙ le_same w (pos 0) v (q *ℤ d) (λ l. omega (arith, ints, s, l)) (λ l. omega (arith, ints, s, l)))

-- tests behind others
pub tests_worth : (params outer : List ℤ) (tests : List Test) → AreTests tests → TestsAreOver params outer tests
    → TestsFit tests params outer
    → all_of (params ++ outer) (map (comparison (length params) (length outer)) tests)
    ≡ Some (all_hold tests (outer ++ params))
tests_worth params outer [] h o f = refl
tests_worth params outer (test ∷ tests) h o f =
    let p = params ++ outer in
    let rest = all_of p (map (comparison (length params) (length outer)) tests) in
    ap (λ (t : Option Bool). both t rest) (test_worth params outer test h.0 o.0 f.0)
    ∙ by_truth (λ e. tests_worth params outer tests h.1 o.1 (f.1 e)) (holds test (outer ++ params)) refl
  where
    by_truth : (holds test (outer ++ params) ≡ true
        → all_of (params ++ outer) (map (comparison (length params) (length outer)) tests)
        ≡ Some (all_hold tests (outer ++ params)))
        → (t : Bool) → holds test (outer ++ params) ≡ t
        → both (Some t) (all_of (params ++ outer) (map (comparison (length params) (length outer)) tests))
        ≡ Some (if t then all_hold tests (outer ++ params) else false)
    by_truth more true e = more e
    by_truth more false e = refl
