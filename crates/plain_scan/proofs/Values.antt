-- Values of rows of one variable, and what their bounds tell.
use Rattle.scop_syntax.proofs.Common.{◌≡◌, ℤ, pos, List, [], ◌∷◌, length, get_or, subst, sym, ◌∙◌, arith, neg_ℤ, ◌+ℤ◌}
use Rattle.scop_syntax.proofs.Common.{◌*ℤ◌, ◌≤ℤ◌, ◌<ℤ◌, ◌≤◌, ◌^◌, unsigned_abs, ints, dot, Affine, value_of, IsFloor}
use Rattle.scop_syntax.proofs.Common.{IsCeiling, mul_comm_int, mul_neg_left, mul_neg_right, mul_one_right, mul_le_left}
use Rattle.scop_syntax.proofs.Common.{floor_at_least, ceiling_at_most, abs_low, abs_high, abs_at_most}
use Rattle.whole_numbers.proofs.Floors.{ceiling_at_least}

pub low_row : (a c q x : ℤ) → pos 0 <ℤ a → IsCeiling (neg_ℤ c) a q → pos 0 ≤ℤ ((a *ℤ x) +ℤ c) → q ≤ℤ x
low_row a c q x h is p =
    let m = mul_comm_int a x in
    (ceiling_at_most (neg_ℤ c) a q x h is).1 (omega (arith, ints))

pub high_row : (a c q x : ℤ) → a <ℤ pos 0 → IsFloor c (neg_ℤ a) q → pos 0 ≤ℤ ((a *ℤ x) +ℤ c) → x ≤ℤ q
high_row a c q x h is p =
    let d : pos 0 <ℤ neg_ℤ a = omega (arith, ints) in
    let m = mul_comm_int a x in
    let n = mul_neg_right x a in
    (floor_at_least c (neg_ℤ a) q x d is).1 (omega (arith, ints))

pub other_row : (a c x : ℤ) → (a *ℤ x) +ℤ c ≡ pos 0 → pos 0 ≤ℤ ((neg_ℤ a *ℤ x) +ℤ neg_ℤ c)
other_row a c x e = let n = mul_neg_left a x in omega (arith, ints)

-- the value of a form of one variable
pub one_value : (f : Affine) (x : ℤ) → length f.coefficients ≡ 1
    → value_of f (x ∷ []) ≡ (get_or f.coefficients 0 (pos 0) *ℤ x) +ℤ f.constant
one_value f x size = let d = dot_one f.coefficients size in omega (arith, ints)
  where
    dot_one : (cs : List ℤ) → length cs ≡ 1 → dot cs (x ∷ []) ≡ get_or cs 0 (pos 0) *ℤ x
    dot_one [] e = absurd (omega arith)
    dot_one (c ∷ []) e = omega (arith, ints)
    dot_one (c ∷ d ∷ cs) e = absurd (omega arith)

pub zero_least : (z : ℤ) → z ≡ pos 0 → pos 0 ≤ℤ z
zero_least z e = omega (arith, ints, e)

pub row_parts : (f : Affine) (a c x : ℤ) → length f.coefficients ≡ 1 → a ≡ get_or f.coefficients 0 (pos 0)
    → c ≡ f.constant
    → pos 0 ≤ℤ value_of f (x ∷ []) → pos 0 ≤ℤ ((a *ℤ x) +ℤ c)
row_parts f a c x size e k h = rw (e, k) (subst (λ z. pos 0 ≤ℤ z) (one_value f x size) h)

pub equality_parts : (f : Affine) (a c x : ℤ) → length f.coefficients ≡ 1 → a ≡ get_or f.coefficients 0 (pos 0)
    → c ≡ f.constant
    → value_of f (x ∷ []) ≡ pos 0 → (a *ℤ x) +ℤ c ≡ pos 0
equality_parts f a c x size e k h = rw (e, k) (sym (one_value f x size) ∙ h)

pub other_parts : (a c p q x : ℤ) → p ≡ neg_ℤ a → q ≡ neg_ℤ c → (a *ℤ x) +ℤ c ≡ pos 0 → pos 0 ≤ℤ ((p *ℤ x) +ℤ q)
other_parts a c p q x e k h = rw (e, k) (other_row a c x h)

-- a quotient of a small number by a positive one is small
pub small_ceiling : (c a q : ℤ) → pos 0 <ℤ a → IsCeiling c a q → unsigned_abs c ≤ 2 ^ 40 → unsigned_abs q ≤ 2 ^ 40
small_ceiling c a q h is small =
    let n = pos (2 ^ 40) in
    let m = neg_ℤ n in
    let low = abs_low c in
    let high = abs_high c in
    let up = mul_le_left (pos 1) a n (omega (arith, ints, h)) (omega (arith, ints)) in
    let one = mul_one_right n in
    let below : q ≤ℤ n = (ceiling_at_most c a q n h is).1 (omega (arith, ints, up, one, high, small)) in
    let minus = mul_neg_left n a in
    let above : m ≤ℤ q = (ceiling_at_least c a q m h is).1 (omega (arith, ints, up, one, low, small, minus, h)) in
    abs_at_most q (2 ^ 40) above below
