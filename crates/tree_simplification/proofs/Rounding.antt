-- Bounds and tests without common factors say what they said (`rounded_low`, `rounded_high`, `rounded_holds`).
use Rattle.tree_simplification.proofs.Common.{◌≡◌, ℕ, zero, suc, ◌≤◌, inl, inr, ℤ, pos, negsuc, Bool, true, false, List}
use Rattle.tree_simplification.proofs.Common.{All, ap, ap₂, subst, sym, ◌∙◌, refl, arith, ◌⊎◌, ◌+ℤ◌, ◌*ℤ◌, ◌≤ℤ◌, ◌<ℤ◌}
use Rattle.tree_simplification.proofs.Common.{neg_ℤ, if◌then◌else◌, unsigned_abs, le_z, ints, Affine, value_of, ceiling}
use Rattle.tree_simplification.proofs.Common.{floor, dot, dot-multiples, floor_is, le_or_lt, mul_positive, mul_comm_int}
use Rattle.tree_simplification.proofs.Common.{mul_distrib_left, mul_one_right, le_z_holds, form_in, IsTest, IsOver}
use Rattle.tree_simplification.proofs.Common.{Bound, at_least, equal, multiple, holds}
use Rattle.scop_syntax.proofs.Common.{content_from, IsFloor, Divides, divides_sizes, floor_unique, mul_le_left}
use Rattle.scop_syntax.proofs.Common.{positive_factor, left_comm, mul_neg_right, mul_zero_right}
use Rattle.whole_numbers.specs.Floor.{floors}
use Rattle.whole_numbers.proofs.Contents.{content_from_divides}
use Rattle.whole_numbers.proofs.Divisors.{sizes_divide}
use Rattle.whole_numbers.proofs.Lowest.{exact_floor, exact_floors}
use Rattle.whole_numbers.proofs.Remainders.{length-floors}
use Rattle.loop_tree.specs.Tree.{Test}
use Rattle.tree_simplification.specs.steps.Rounded.{divisor_by, factor_of, form_by, rounded, rounded_test}

-- floor((g a + c) / (g d)) = floor((a + floor(c / g)) / d)
floor_rounded : (g d a c : ℤ) → pos 0 <ℤ g → pos 0 <ℤ d
    → floor ((g *ℤ a) +ℤ c) (g *ℤ d) ≡ floor (a +ℤ floor c g) d
floor_rounded g d a c g_up d_up =
    let x = (g *ℤ a) +ℤ c in
    let fl = floor c g in
    let q = floor (a +ℤ fl) d in
    let outer = floor_is (a +ℤ fl) d d_up in
    let inner = floor_is c g g_up in
    let outer_below = outer.below in
    let outer_above = outer.above in
    let inner_below = inner.below in
    let inner_above = inner.above in
    let not_less : pos 0 ≤ℤ g = omega (arith, ints) in
    let low = mul_le_left (q *ℤ d) (a +ℤ fl) g outer_below not_less in
    let high = mul_le_left ((a +ℤ fl) +ℤ pos 1) ((q *ℤ d) +ℤ d) g (omega (arith, ints)) not_less in
    let s = mul_distrib_left a fl g in
    let t = mul_distrib_left (a +ℤ fl) (pos 1) g in
    let u = mul_distrib_left (q *ℤ d) d g in
    let o = mul_one_right g in
    let l = left_comm q g d in
    let m = mul_comm_int fl g in
    let up = mul_positive g d g_up d_up in
    let is : IsFloor x (g *ℤ d) q = record { below = omega (arith, ints); above = omega (arith, ints) } in
    floor_unique x (g *ℤ d) (floor x (g *ℤ d)) q up (floor_is x (g *ℤ d) up) is

-- so of ceilings
ceiling_rounded : (g d a c : ℤ) → pos 0 <ℤ g → pos 0 <ℤ d
    → ceiling ((g *ℤ a) +ℤ c) (g *ℤ d) ≡ ceiling (a +ℤ ceiling c g) d
ceiling_rounded g d a c g_up d_up =
    let n = mul_neg_right g a in
    let e : neg_ℤ ((g *ℤ a) +ℤ c) ≡ (g *ℤ neg_ℤ a) +ℤ neg_ℤ c = omega (arith, ints) in
    let f : neg_ℤ a +ℤ floor (neg_ℤ c) g ≡ neg_ℤ (a +ℤ ceiling c g) = omega (arith, ints) in
    ap neg_ℤ
    (ap (λ (z : ℤ). floor z (g *ℤ d)) e
    ∙ (floor_rounded g d (neg_ℤ a) (neg_ℤ c) g_up d_up ∙ ap (λ (z : ℤ). floor z d) f))

-- at least 0 where the rounded one is
up_rounded : (g a c : ℤ) → pos 0 <ℤ g → le_z (pos 0) (a +ℤ floor c g) ≡ le_z (pos 0) ((g *ℤ a) +ℤ c)
up_rounded g a c g_up =
    let inner = floor_is c g g_up in
    let below = inner.below in
    let above = inner.above in
    let w = a +ℤ floor c g in
    let s = mul_distrib_left a (floor c g) g in
    let m = mul_comm_int (floor c g) g in
    let z = mul_zero_right g in
    let not_less : pos 0 ≤ℤ g = omega (arith, ints) in
    elim (le_or_lt (pos 0) w) [
      | inl h ↦
          let k = mul_le_left (pos 0) w g h not_less in
          le_z_holds (pos 0) w h ∙ sym (le_z_holds (pos 0) ((g *ℤ a) +ℤ c) (omega (arith, ints)))
      | inr h ↦
          let k = mul_le_left (w +ℤ pos 1) (pos 0) g (omega (arith, ints)) not_less in
          let t = mul_distrib_left w (pos 1) g in
          let o = mul_one_right g in
          let less : ((g *ℤ a) +ℤ c) <ℤ pos 0 = omega (arith, ints) in
          not_up w h ∙ sym (not_up ((g *ℤ a) +ℤ c) less)
    ]
  where
    not_up : (z : ℤ) → z <ℤ pos 0 → le_z (pos 0) z ≡ false
    not_up z h = grind (arith, ints)

-- at most 0 where a positive multiple is
down_factor : (g w : ℤ) → pos 0 <ℤ g → le_z w (pos 0) ≡ le_z (g *ℤ w) (pos 0)
down_factor g w g_up =
    let z = mul_zero_right g in
    let o = mul_one_right g in
    let not_less : pos 0 ≤ℤ g = omega (arith, ints) in
    elim (le_or_lt w (pos 0)) [
      | inl h ↦
          let k = mul_le_left w (pos 0) g h not_less in
          le_z_holds w (pos 0) h ∙ sym (le_z_holds (g *ℤ w) (pos 0) (omega (arith, ints)))
      | inr h ↦
          let k = mul_le_left (pos 1) w g (omega (arith, ints)) not_less in
          let more : pos 0 <ℤ (g *ℤ w) = omega (arith, ints) in
          not_down w h ∙ sym (not_down (g *ℤ w) more)
    ]
  where
    not_down : (z : ℤ) → pos 0 <ℤ z → le_z z (pos 0) ≡ false
    not_down z h = grind (arith, ints)

-- a number by which a form's coefficients are divided, and the divisor, or by which nothing is
abbrev HasFactor : ℕ → ℤ → List ℤ → Type 0
HasFactor n d xs = (n ≤ 1) ⊎ ((pos 0 <ℤ d) × Divides (pos n) d × All (Divides (pos n)) xs)

has_factor : (d : ℤ) (xs : List ℤ) → HasFactor (factor_of d xs) d xs
has_factor (pos zero) xs = inl (omega arith)
has_factor (pos (suc d)) xs = let h = content_from_divides (suc d) xs in inr (omega (arith, ints), h.0, h.1)
has_factor (negsuc d) xs = inl (omega arith)

positive : (n : ℕ) → pos 0 <ℤ pos (suc n)
positive n = omega (arith, ints)

-- a form's value by them
value_by : (n : ℕ) (f : Affine) (point : List ℤ) → All (Divides (pos (suc n))) f.coefficients
    → value_of f point ≡ (pos (suc n) *ℤ dot (floors (pos (suc n)) f.coefficients) point) +ℤ f.constant
value_by n f point all =
    let g = pos (suc n) in
    ap (λ (z : ℤ). z +ℤ f.constant)
    (ap (λ (xs : List ℤ). dot xs point) (exact_floors g f.coefficients (positive n) all)
    ∙ dot-multiples g (floors g f.coefficients) point)

low_by : (n : ℕ) (b : Bound) (point : List ℤ) → HasFactor n b.divisor b.form.coefficients
    → ceiling (value_of (form_by n true b.form) point) (divisor_by n b.divisor)
    ≡ ceiling (value_of b.form point) b.divisor
low_by zero b point h = refl
low_by (suc zero) b point h = refl
low_by (suc (suc n)) b point (inl h) = absurd (omega (arith, h))
low_by (suc (suc n)) b point (inr h) =
    let g = pos (suc (suc n)) in
    let d = floor b.divisor g in
    let up = positive (suc n) in
    let e = exact_floor b.divisor g up h.1 in
    let whole = positive_factor g d up (subst (λ (z : ℤ). pos 0 <ℤ z) e h.0) in
    sym (ap₂ (λ (y z : ℤ). ceiling y z) (value_by (suc n) b.form point h.2) e
    ∙ ceiling_rounded g d (dot (floors g b.form.coefficients) point) b.form.constant up whole)

high_by : (n : ℕ) (b : Bound) (point : List ℤ) → HasFactor n b.divisor b.form.coefficients
    → floor (value_of (form_by n false b.form) point) (divisor_by n b.divisor)
    ≡ floor (value_of b.form point) b.divisor
high_by zero b point h = refl
high_by (suc zero) b point h = refl
high_by (suc (suc n)) b point (inl h) = absurd (omega (arith, h))
high_by (suc (suc n)) b point (inr h) =
    let g = pos (suc (suc n)) in
    let d = floor b.divisor g in
    let up = positive (suc n) in
    let e = exact_floor b.divisor g up h.1 in
    let whole = positive_factor g d up (subst (λ (z : ℤ). pos 0 <ℤ z) e h.0) in
    sym (ap₂ (λ (y z : ℤ). floor y z) (value_by (suc n) b.form point h.2) e
    ∙ floor_rounded g d (dot (floors g b.form.coefficients) point) b.form.constant up whole)

-- a lower and an upper bound
pub rounded_low : (b : Bound) (point : List ℤ)
    → ceiling (value_of (rounded true b).form point) (rounded true b).divisor
    ≡ ceiling (value_of b.form point) b.divisor
unfolding rounded
rounded_low b point =
    low_by (factor_of b.divisor b.form.coefficients) b point (has_factor b.divisor b.form.coefficients)

pub rounded_high : (b : Bound) (point : List ℤ)
    → floor (value_of (rounded false b).form point) (rounded false b).divisor ≡ floor (value_of b.form point) b.divisor
unfolding rounded
rounded_high b point =
    high_by (factor_of b.divisor b.form.coefficients) b point (has_factor b.divisor b.form.coefficients)

-- tests
up_by : (n : ℕ) (f : Affine) (point : List ℤ) → All (Divides (pos n)) f.coefficients
    → le_z (pos 0) (value_of (form_by n false f) point) ≡ le_z (pos 0) (value_of f point)
up_by zero f point all = refl
up_by (suc zero) f point all = refl
up_by (suc (suc n)) f point all =
    let g = pos (suc (suc n)) in
    up_rounded g (dot (floors g f.coefficients) point) f.constant (positive (suc n))
    ∙ ap (λ (z : ℤ). le_z (pos 0) z) (sym (value_by (suc n) f point all))

down_by : (n : ℕ) (f : Affine) (point : List ℤ) → Divides (pos n) f.constant → All (Divides (pos n)) f.coefficients
    → le_z (value_of (form_by n false f) point) (pos 0) ≡ le_z (value_of f point) (pos 0)
down_by zero f point own all = refl
down_by (suc zero) f point own all = refl
down_by (suc (suc n)) f point own all =
    let g = pos (suc (suc n)) in
    let a = dot (floors g f.coefficients) point in
    let e = exact_floor f.constant g (positive (suc n)) own in
    let v = value_by (suc n) f point all in
    let s = mul_distrib_left a (floor f.constant g) g in
    let is : value_of f point ≡ g *ℤ (a +ℤ floor f.constant g) = omega (arith, ints) in
    down_factor g (a +ℤ floor f.constant g) (positive (suc n)) ∙ ap (λ (z : ℤ). le_z z (pos 0)) (sym is)

pub rounded_holds : (test : Test) (point : List ℤ) → holds (rounded_test test) point ≡ holds test point
unfolding rounded_test
rounded_holds (at_least f) point =
    up_by (content_from 0 f.coefficients) f point (content_from_divides 0 f.coefficients).1
rounded_holds (equal f) point =
    let n = content_from (unsigned_abs f.constant) f.coefficients in
    let h = content_from_divides (unsigned_abs f.constant) f.coefficients in
    let own : Divides (pos n) f.constant = sizes_divide (pos n) f.constant
    (divides_sizes (pos n) (pos (unsigned_abs f.constant)) h.0) in
    ap₂ (λ (a b : Bool). if a then b else false) (up_by n f point h.1) (down_by n f point own h.1)
rounded_holds (multiple f d) point = refl

-- how many coefficients
sized_by : (n m : ℕ) (up : Bool) (f : Affine) → IsOver m f → IsOver m (form_by n up f)
sized_by zero m up f h = h
sized_by (suc zero) m up f h = h
sized_by (suc (suc n)) m up f h = length-floors (pos (suc (suc n))) f.coefficients ∙ h

pub rounded_sized : (m : ℕ) (up : Bool) (b : Bound) → IsOver m b.form → IsOver m (rounded up b).form
unfolding rounded
rounded_sized m up b h = sized_by (factor_of b.divisor b.form.coefficients) m up b.form h

pub test_sized : (m : ℕ) (test : Test) → IsOver m (form_in test) → IsOver m (form_in (rounded_test test))
unfolding rounded_test
test_sized m (at_least f) h = sized_by (content_from 0 f.coefficients) m false f h
test_sized m (equal f) h = sized_by (content_from (unsigned_abs f.constant) f.coefficients) m false f h
test_sized m (multiple f d) h = h

-- divisors stay positive
flat_by : (n : ℕ) (d : ℤ) (xs : List ℤ) → HasFactor n d xs → pos 0 <ℤ d → pos 0 <ℤ divisor_by n d
flat_by zero d xs h up = up
flat_by (suc zero) d xs h up = up
flat_by (suc (suc n)) d xs (inl h) up = absurd (omega (arith, h))
flat_by (suc (suc n)) d xs (inr h) up =
    let g = pos (suc (suc n)) in
    positive_factor g (floor d g) (positive (suc n))
    (subst (λ (z : ℤ). pos 0 <ℤ z) (exact_floor d g (positive (suc n)) h.1) up)

pub rounded_flat : (up : Bool) (b : Bound) → pos 0 <ℤ b.divisor → pos 0 <ℤ (rounded up b).divisor
unfolding rounded
rounded_flat up b h =
    flat_by (factor_of b.divisor b.form.coefficients) b.divisor b.form.coefficients
    (has_factor b.divisor b.form.coefficients) h

pub test_flat : (test : Test) → IsTest test → IsTest (rounded_test test)
unfolding rounded_test
test_flat (at_least f) h = tt
test_flat (equal f) h = tt
test_flat (multiple f d) h = h
