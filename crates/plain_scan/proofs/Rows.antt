-- Rows as bounds, hulls, pieces.
use Rattle.scop_syntax.proofs.Common.{◌≡◌, ℕ, ℤ, pos, List, [], ◌∷◌, ◌++◌, length, map, get_or, subst, sym, refl, arith}
use Rattle.scop_syntax.proofs.Common.{neg_ℤ, ◌+ℤ◌, ◌*ℤ◌, ◌≤ℤ◌, ◌<ℤ◌, ints, dot, floor, ceiling, Affine, value_of}
use Rattle.scop_syntax.proofs.Common.{multiple_of_form, widened, mul_zero_left, mul_comm_int, mul_neg_left}
use Rattle.scop_syntax.proofs.Common.{mul_neg_right, mul_one_left, value_of-multiple, floor_is, ceiling_is}
use Rattle.scop_syntax.proofs.Common.{floor_at_least, ceiling_at_most}
use Rattle.fractions.specs.Elimination.{coefficient_of, removed, narrowed}
use Rattle.loop_tree.proofs.Extremes.{max_below, below_max, above_min, min_above}
use Rattle.whole_numbers.proofs.Values.{value_of-widened}
use Rattle.loop_tree.specs.Walk.{lower, upper}
use Rattle.plain_scan.specs.steps.Serving.{AllAtLeast, AreLow, AreHigh}
use Rattle.plain_scan.specs.Rows.{low_bound, high_bound, low_bounds, high_bounds}

-- a row is a multiple of the loop's value plus a rest
dot_split : (outer : List ℤ) (x : ℤ) (params cs : List ℤ)
    → dot cs (outer ++ x ∷ params) ≡ (get_or cs (length outer) (pos 0) *ℤ x) +ℤ dot (removed (length outer) cs)
    (outer ++ params)
dot_split [] x params [] = let z = mul_zero_left x in omega (arith, ints)
dot_split (y ∷ outer) x params [] = let z = mul_zero_left x in omega (arith, ints)
dot_split [] x params (c ∷ cs) = refl
dot_split (y ∷ outer) x params (c ∷ cs) = let r = dot_split outer x params cs in omega (arith, ints)

pub value_split : (outer : List ℤ) (x : ℤ) (params : List ℤ) (f : Affine)
    → value_of f (outer ++ x ∷ params) ≡ (coefficient_of (length outer) f *ℤ x) +ℤ value_of
    (narrowed (length outer) f) (outer ++ params)
value_split outer x params f = let d = dot_split outer x params f.coefficients in omega (arith, ints)

-- rows that do not speak of a loop's value hold within it where they hold round it
pub widened_hold : (m : ℕ) (fs : List Affine) (outer : List ℤ) (x : ℤ) (rest : List ℤ) → length outer ≡ m
    → AllAtLeast fs (outer ++ rest) → AllAtLeast (map (widened m) fs) (outer ++ x ∷ rest)
widened_hold m [] outer x rest size h = tt
widened_hold m (f ∷ fs) outer x rest size h = (
  subst (λ z. pos 0 ≤ℤ z) (sym (value_of-widened m f outer x rest size)) h.0,
  widened_hold m fs outer x rest size h.1,
)

pub widened_held : (m : ℕ) (fs : List Affine) (outer : List ℤ) (x : ℤ) (rest : List ℤ) → length outer ≡ m
    → AllAtLeast (map (widened m) fs) (outer ++ x ∷ rest) → AllAtLeast fs (outer ++ rest)
widened_held m [] outer x rest size h = tt
widened_held m (f ∷ fs) outer x rest size h = (
  subst (λ z. pos 0 ≤ℤ z) (value_of-widened m f outer x rest size) h.0,
  widened_held m fs outer x rest size h.1,
)

-- one row, one bound
low_to : (a r x : ℤ) → pos 0 <ℤ a → pos 0 ≤ℤ ((a *ℤ x) +ℤ r) → ceiling (neg_ℤ r) a ≤ℤ x
low_to a r x h p =
    let c = mul_comm_int a x in
    (ceiling_at_most (neg_ℤ r) a (ceiling (neg_ℤ r) a) x h (ceiling_is (neg_ℤ r) a h)).1 (omega (arith, ints))

low_from : (a r x : ℤ) → pos 0 <ℤ a → ceiling (neg_ℤ r) a ≤ℤ x → pos 0 ≤ℤ ((a *ℤ x) +ℤ r)
low_from a r x h p =
    let c = mul_comm_int a x in
    let q = (ceiling_at_most (neg_ℤ r) a (ceiling (neg_ℤ r) a) x h (ceiling_is (neg_ℤ r) a h)).0 p in
    omega (arith, ints)

high_to : (a r x : ℤ) → a <ℤ pos 0 → pos 0 ≤ℤ ((a *ℤ x) +ℤ r) → x ≤ℤ floor r (neg_ℤ a)
high_to a r x h p =
    let d : pos 0 <ℤ neg_ℤ a = omega (arith, ints) in
    let c = mul_comm_int a x in
    let n = mul_neg_right x a in
    (floor_at_least r (neg_ℤ a) (floor r (neg_ℤ a)) x d (floor_is r (neg_ℤ a) d)).1 (omega (arith, ints))

high_from : (a r x : ℤ) → a <ℤ pos 0 → x ≤ℤ floor r (neg_ℤ a) → pos 0 ≤ℤ ((a *ℤ x) +ℤ r)
high_from a r x h p =
    let d : pos 0 <ℤ neg_ℤ a = omega (arith, ints) in
    let c = mul_comm_int a x in
    let n = mul_neg_right x a in
    let q = (floor_at_least r (neg_ℤ a) (floor r (neg_ℤ a)) x d (floor_is r (neg_ℤ a) d)).0 p in
    omega (arith, ints)

pub negated : (f : Affine) (point : List ℤ) → value_of (multiple_of_form (neg_ℤ (pos 1)) f) point ≡ neg_ℤ
    (value_of f point)
negated f point =
    let v = value_of-multiple (neg_ℤ (pos 1)) f point in
    let m = mul_neg_left (pos 1) (value_of f point) in
    let o = mul_one_left (value_of f point) in
    omega (arith, ints)

one_low_to : (outer : List ℤ) (x : ℤ) (params : List ℤ) (f : Affine) → pos 0 <ℤ coefficient_of (length outer) f
    → pos 0 ≤ℤ value_of f (outer ++ x ∷ params) → ceiling (value_of (low_bound (length outer) f).form
    (outer ++ params)) (low_bound (length outer) f).divisor ≤ℤ x
one_low_to outer x params f h p =
    subst (λ z. ceiling z (coefficient_of (length outer) f) ≤ℤ x)
    (sym (negated (narrowed (length outer) f) (outer ++ params)))
    (low_to (coefficient_of (length outer) f) (value_of (narrowed (length outer) f) (outer ++ params)) x h
    (subst (λ z. pos 0 ≤ℤ z) (value_split outer x params f) p))

one_low_from : (outer : List ℤ) (x : ℤ) (params : List ℤ) (f : Affine) → pos 0 <ℤ coefficient_of (length outer) f
    → ceiling (value_of (low_bound (length outer) f).form (outer ++ params)) (low_bound (length outer) f).divisor ≤ℤ x
    → pos 0 ≤ℤ value_of f (outer ++ x ∷ params)
one_low_from outer x params f h p =
    subst (λ z. pos 0 ≤ℤ z) (sym (value_split outer x params f))
    (low_from (coefficient_of (length outer) f) (value_of (narrowed (length outer) f) (outer ++ params)) x h
    (subst (λ z. ceiling z (coefficient_of (length outer) f) ≤ℤ x) (negated (narrowed (length outer) f)
    (outer ++ params)) p))

one_high_to : (outer : List ℤ) (x : ℤ) (params : List ℤ) (f : Affine) → coefficient_of (length outer) f <ℤ pos 0
    → pos 0 ≤ℤ value_of f (outer ++ x ∷ params) → x ≤ℤ floor (value_of (high_bound (length outer) f).form
    (outer ++ params)) (high_bound (length outer) f).divisor
one_high_to outer x params f h p =
    high_to (coefficient_of (length outer) f) (value_of (narrowed (length outer) f) (outer ++ params)) x h
    (subst (λ z. pos 0 ≤ℤ z) (value_split outer x params f) p)

one_high_from : (outer : List ℤ) (x : ℤ) (params : List ℤ) (f : Affine) → coefficient_of (length outer) f <ℤ pos 0
    → x ≤ℤ floor (value_of (high_bound (length outer) f).form (outer ++ params)) (high_bound (length outer) f).divisor
    → pos 0 ≤ℤ value_of f (outer ++ x ∷ params)
one_high_from outer x params f h p =
    subst (λ z. pos 0 ≤ℤ z) (sym (value_split outer x params f))
    (high_from (coefficient_of (length outer) f) (value_of (narrowed (length outer) f) (outer ++ params)) x h p)

-- all rows, all bounds
pub lows_to : (outer : List ℤ) (x : ℤ) (params : List ℤ) (f : Affine) (fs : List Affine)
    → AreLow (length outer) (f ∷ fs)
    → AllAtLeast (f ∷ fs) (outer ++ x ∷ params) → lower (low_bounds (length outer) f fs) (outer ++ params) ≤ℤ x
lows_to outer x params f [] h p = one_low_to outer x params f h.0 p.0
lows_to outer x params f (g ∷ gs) h p = max_below _ _ x (one_low_to outer x params f h.0 p.0)
    (lows_to outer x params g gs h.1 p.1)

pub lows_from : (outer : List ℤ) (x : ℤ) (params : List ℤ) (f : Affine) (fs : List Affine)
    → AreLow (length outer) (f ∷ fs)
    → lower (low_bounds (length outer) f fs) (outer ++ params) ≤ℤ x → AllAtLeast (f ∷ fs) (outer ++ x ∷ params)
lows_from outer x params f [] h p = (one_low_from outer x params f h.0 p, tt)
lows_from outer x params f (g ∷ gs) h p =
    let b = below_max (ceiling (value_of (low_bound (length outer) f).form (outer ++ params))
    (low_bound (length outer) f).divisor) (lower (low_bounds (length outer) g gs) (outer ++ params)) x p in
    (one_low_from outer x params f h.0 b.0, lows_from outer x params g gs h.1 b.1)

pub highs_to : (outer : List ℤ) (x : ℤ) (params : List ℤ) (f : Affine) (fs : List Affine)
    → AreHigh (length outer) (f ∷ fs)
    → AllAtLeast (f ∷ fs) (outer ++ x ∷ params) → x ≤ℤ upper (high_bounds (length outer) f fs) (outer ++ params)
highs_to outer x params f [] h p = one_high_to outer x params f h.0 p.0
highs_to outer x params f (g ∷ gs) h p = above_min _ _ x (one_high_to outer x params f h.0 p.0)
    (highs_to outer x params g gs h.1 p.1)

pub highs_from : (outer : List ℤ) (x : ℤ) (params : List ℤ) (f : Affine) (fs : List Affine)
    → AreHigh (length outer) (f ∷ fs)
    → x ≤ℤ upper (high_bounds (length outer) f fs) (outer ++ params) → AllAtLeast (f ∷ fs) (outer ++ x ∷ params)
highs_from outer x params f [] h p = (one_high_from outer x params f h.0 p, tt)
highs_from outer x params f (g ∷ gs) h p =
    let b = min_above (floor (value_of (high_bound (length outer) f).form (outer ++ params))
    (high_bound (length outer) f).divisor) (upper (high_bounds (length outer) g gs) (outer ++ params)) x p in
    (one_high_from outer x params f h.0 b.0, highs_from outer x params g gs h.1 b.1)

-- the weakest constant of rows of one linear part is implied by each of them
pub weaker_row : (cs : List ℤ) (c d : ℤ) (point : List ℤ) → c ≤ℤ d
    → pos 0 ≤ℤ value_of (record { coefficients = cs; constant = c }) point
    → pos 0 ≤ℤ value_of (record { coefficients = cs; constant = d }) point
weaker_row cs c d point h p = omega (arith, ints)
