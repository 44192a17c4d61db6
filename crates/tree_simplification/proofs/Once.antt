-- Tests whether a form lies between bounds; one that bounds a loop from both sides.
use Rattle.tree_simplification.proofs.Common.{◌≡◌, ℕ, inl, inr, ℤ, pos, Bool, true, false, List, [], ◌∷◌, ◌++◌, ap, ap₂}
use Rattle.tree_simplification.proofs.Common.{subst, sym, ◌∙◌, refl, arith, le_z, All, not, ◌-ℤ◌, ◌*ℤ◌, ◌≤ℤ◌}
use Rattle.tree_simplification.proofs.Common.{if◌then◌else◌, ints, All-cons, All-head, All-nil, All-tail, Affine}
use Rattle.tree_simplification.proofs.Common.{value_of, mul_one_left, mul_one_right, mul_sub_left, In, both, holds_le_z}
use Rattle.tree_simplification.proofs.Common.{le_z_holds, AreBounds, AreTests, BoundsAreOver, IsOver, Bound, Bounds}
use Rattle.tree_simplification.proofs.Common.{at_least, besides, only, all_hold, lower, upper, OnSide, parts, sign_of}
use Rattle.tree_simplification.proofs.Common.{AreTestsOf, side_form, side_tests, lies}
use Rattle.scop_syntax.proofs.Common.{multiple_of_form, value_of-multiple, value_of-sum}
use Rattle.loop_tree.specs.Tree.{Test}
use Rattle.tree_simplification.specs.steps.Inlined.{whole}
use Rattle.tree_simplification.proofs.Contexts.{high_from, high_to, low_from, low_to}
use Rattle.tree_simplification.proofs.Heads.{all_hold_append}
use Rattle.tree_simplification.proofs.Rounding.{rounded_holds, test_flat}
use Rattle.tree_simplification.proofs.RowValues.{other_sign, turned_is}

-- a part of a side
pub on_member : (turned : Bool) (b : Bound) (bs : List Bound) (point : List ℤ) (x : ℤ) → In b bs
    → OnSide turned bs point x → pos 0 ≤ℤ (sign_of turned *ℤ (value_of b.form point -ℤ (x *ℤ b.divisor)))
on_member turned b [] point x i on = absurd i
on_member turned b (a ∷ bs) point x (inl e) on =
    subst (λ (c : Bound). pos 0 ≤ℤ (sign_of turned *ℤ (value_of c.form point -ℤ (x *ℤ c.divisor)))) (sym e) on.0
on_member turned b (a ∷ bs) point x (inr i) on = on_member turned b bs point x i on.1

-- what is tested is what the side says of the form's value
side_value : (turned : Bool) (f : Affine) (b : Bound) (point : List ℤ)
    → value_of (side_form turned f b) point
    ≡ sign_of turned *ℤ (value_of b.form point -ℤ (value_of f point *ℤ b.divisor))
side_value turned f b point =
    let s = sign_of turned in
    let k = sign_of (not turned) *ℤ b.divisor in
    let v = value_of f point in
    let x = value_of-sum (multiple_of_form (s *ℤ pos 1) b.form) (multiple_of_form k f) point in
    let y = value_of-multiple (s *ℤ pos 1) b.form point in
    let z = value_of-multiple k f point in
    let o = other_sign turned b.divisor v in
    let e = ap (λ (t : ℤ). t *ℤ value_of b.form point) (mul_one_right s) in
    let m = mul_sub_left (value_of b.form point) (v *ℤ b.divisor) s in
    omega (arith, ints, x, y, z, o, e, m)

sides_to : (turned : Bool) (f : Affine) (bs : List Bound) (point : List ℤ)
    → all_hold (side_tests turned f bs) point ≡ true → OnSide turned bs point (value_of f point)
sides_to turned f [] point h = tt
sides_to turned f (b ∷ bs) point h =
    let q = both _ _ h in
    let up = holds_le_z (pos 0) (value_of (side_form turned f b) point)
    (sym (rounded_holds (at_least (side_form turned f b)) point) ∙ q.0) in
    (subst (λ (z : ℤ). pos 0 ≤ℤ z) (side_value turned f b point) up, sides_to turned f bs point q.1)

sides_from : (turned : Bool) (f : Affine) (bs : List Bound) (point : List ℤ)
    → OnSide turned bs point (value_of f point) → all_hold (side_tests turned f bs) point ≡ true
sides_from turned f [] point on = refl
sides_from turned f (b ∷ bs) point on =
    let side = side_form turned f b in
    let up = le_z_holds (pos 0) (value_of side point)
    (subst (λ (z : ℤ). pos 0 ≤ℤ z) (sym (side_value turned f b point)) on.0) in
    ap₂ (λ (x y : Bool). if x then y else false) (rounded_holds (at_least side) point ∙ up)
    (sides_from turned f bs point on.1)

pub sides_flat : (turned : Bool) (f : Affine) (bs : List Bound) (tests : List Test) → AreTests tests
    → AreTests (side_tests turned f bs ++ tests)
sides_flat turned f [] tests h = h
sides_flat turned f (b ∷ bs) tests h = (test_flat (at_least (side_form turned f b)) tt, sides_flat turned f bs tests h)

truths_same : (a b : Bool) → (a ≡ true → b ≡ true) → (b ≡ true → a ≡ true) → a ≡ b
truths_same true b f g = sym (f refl)
truths_same false true f g = g refl
truths_same false false f g = refl

-- the tests hold where the form lies between the bounds
pub tests_lie : (n : ℕ) (f : Affine) (low high : Bounds) (tests : List Test) (point : List ℤ)
    → AreTestsOf n (side_tests true f (parts low) ++ side_tests false f (parts high)) tests → AreBounds low
    → AreBounds high
    → all_hold tests point ≡ lies (lower low point) (upper high point) (value_of f point)
tests_lie n f low high tests point are flat_low flat_high =
    let v = value_of f point in
    let l = lower low point in
    let u = upper high point in
    let lows = side_tests true f (parts low) in
    let highs = side_tests false f (parts high) in
    are.same point
    ∙ (all_hold_append lows highs point
    ∙ ap₂ (λ (p q : Bool). if p then q else false)
    (truths_same (all_hold lows point) (le_z l v)
    (λ h. le_z_holds l v (low_from low point v flat_low (sides_to true f (parts low) point h)))
    (λ h. sides_from true f (parts low) point (low_to low point v flat_low (holds_le_z l v h))))
    (truths_same (all_hold highs point) (le_z v u)
    (λ h. le_z_holds v u (high_from high point v flat_high (sides_to false f (parts high) point h)))
    (λ h. sides_from false f (parts high) point (high_to high point v flat_high (holds_le_z v u h)))))

-- a form that is one of the bounds of both sides
pub record IsBetween (low high : Bounds) (f : Affine) (point : List ℤ) : Type 0 where
  pub above : value_of f point ≤ℤ lower low point
  pub below : upper high point ≤ℤ value_of f point

pub is_between : (f : Affine) (low high : Bounds) (point : List ℤ) → In (whole f) (parts low)
    → In (whole f) (parts high) → AreBounds low → AreBounds high → IsBetween low high f point
is_between f low high point in_low in_high flat_low flat_high =
    let v = value_of f point in
    let l = lower low point in
    let u = upper high point in
    let above = on_member true (whole f) (parts low) point l in_low
    (low_to low point l flat_low (omega (arith, ints))) in
    let below = on_member false (whole f) (parts high) point u in_high
    (high_to high point u flat_high (omega (arith, ints))) in
    let t = turned_is (v -ℤ (l *ℤ pos 1)) in
    let o = mul_one_left (v -ℤ (u *ℤ pos 1)) in
    let a = mul_one_right l in
    let b = mul_one_right u in
    record { above = omega (arith, ints); below = omega (arith, ints) }

-- the parts of bounds over n variables
pub parts_sized : (n : ℕ) (bs : Bounds) → BoundsAreOver n bs → All (λ b. IsOver n b.form) (parts bs)
parts_sized n (only b) h = All-cons (λ b. IsOver n b.form) b [] h (All-nil (λ (b : Bound). IsOver n b.form))
parts_sized n (besides b bs) h = All-cons (λ b. IsOver n b.form) b (parts bs) h.0 (parts_sized n bs h.1)

-- a form that is one of them is over n variables
pub member_over : (n : ℕ) (f : Affine) (bs : List Bound) → All (λ b. IsOver n b.form) bs → In (whole f) bs → IsOver n f
member_over n f [] all i = absurd i
member_over n f (b ∷ bs) all (inl e) =
    subst (λ (c : Bound). IsOver n c.form) (sym e) (All-head (λ (c : Bound). IsOver n c.form) b bs all)
member_over n f (b ∷ bs) all (inr i) = member_over n f bs (All-tail (λ (c : Bound). IsOver n c.form) b bs all) i
