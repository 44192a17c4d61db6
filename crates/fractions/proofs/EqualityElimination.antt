-- The elimination of a variable by an equality, over fractions: what the equality asks of a fraction.
use Rattle.whole_numbers.proofs.Common.{◌≡◌, ℕ, zero, suc, ℤ, pos, negsuc, ◌+ℤ◌, ◌-ℤ◌, ◌*ℤ◌, neg_ℤ, ◌≤ℤ◌, ◌<ℤ◌}
use Rattle.whole_numbers.proofs.Common.{unsigned_abs, Bool, true, false, List, get_or, ◌↔◌, refl, sym, ◌∙◌, ap, All}
use Rattle.whole_numbers.proofs.Common.{arith, not, map, ints, false≢true, All-append, All-map, Affine}
use Rattle.whole_numbers.proofs.Common.{multiple_of_form, mul_zero_right, mul_sub_left, mul_distrib_left, mul_assoc_int}
use Rattle.whole_numbers.proofs.Common.{mul_neg_left, mul_neg_right, left_comm, cancel_le, cancel_eq, mul_not_negative}
use Rattle.whole_numbers.proofs.Common.{all_front, all_back, all_unmapped}
use Rattle.fractions.specs.Fractions.{value_over}
use Rattle.fractions.specs.Elimination.{coefficient_of, is_zero, is_not_zero, chosen, sign, reduced, reduced_all}
use Rattle.fractions.proofs.PointValues.{rest_over, value_over-sum, value_over-multiple}
use Rattle.fractions.proofs.ChosenRows.{Passing, is_zero_iff, chosen_from, chosen_to}

-- |a| = sign(a) a, and it is positive where a is not 0
pub size_is : (a : ℤ) → pos (unsigned_abs a) ≡ sign a *ℤ a
size_is (pos n) = omega (arith, ints)
size_is (negsuc n) = omega (arith, ints)

pub size_positive : (a : ℤ) → is_zero a ≡ false → pos 0 <ℤ pos (unsigned_abs a)
size_positive (pos zero) h = absurd (false≢true (sym h))
size_positive (pos (suc n)) h = omega (arith, ints)
size_positive (negsuc n) h = omega (arith, ints)

-- a reduced form's value
pub value_over-reduced : (i : ℕ) (e r : Affine) (d : ℤ) (xs : List ℤ)
    → value_over (reduced i e r) d xs
    ≡ (pos (unsigned_abs (coefficient_of i e)) *ℤ rest_over i d xs r)
    -ℤ ((sign (coefficient_of i e) *ℤ coefficient_of i r) *ℤ rest_over i d xs e)
value_over-reduced i e r d xs =
    let a = coefficient_of i e in
    let c = coefficient_of i r in
    let s = sign a in
    let m = pos (unsigned_abs a) in
    let x = get_or xs i (pos 0) in
    let v = value_over-sum (multiple_of_form m r) (multiple_of_form (neg_ℤ (s *ℤ c)) e) d xs in
    let w = value_over-multiple m r d xs in
    let y = value_over-multiple (neg_ℤ (s *ℤ c)) e d xs in
    let z = mul_neg_left (s *ℤ c) (value_over e d xs) in
    let t = mul_sub_left (value_over r d xs) (c *ℤ x) m in
    let u = mul_sub_left (value_over e d xs) (a *ℤ x) (s *ℤ c) in
    let p : m *ℤ (c *ℤ x) ≡ (s *ℤ c) *ℤ (a *ℤ x) = turn s a c x m (size_is a) in
    omega (arith, ints)
  where
    turn : (s a c x m : ℤ) → m ≡ s *ℤ a → m *ℤ (c *ℤ x) ≡ (s *ℤ c) *ℤ (a *ℤ x)
    turn s a c x m h =
        ap (λ (z : ℤ). z *ℤ (c *ℤ x)) h
        ∙ mul_assoc_int s a (c *ℤ x) ∙ ap (λ (z : ℤ). s *ℤ z) (left_comm a c x) ∙ sym (mul_assoc_int s c (a *ℤ x))

-- the numerator that the equality asks for, over |a|
pub asked_numerator : (a r : ℤ) → (pos (unsigned_abs a) *ℤ r) +ℤ (a *ℤ neg_ℤ (sign a *ℤ r)) ≡ pos 0
asked_numerator a r =
    let e = ap (λ (z : ℤ). z *ℤ r) (size_is a) in
    let f = mul_neg_right a (sign a *ℤ r) in
    let g = left_comm a (sign a) r in
    let h = mul_assoc_int (sign a) a r in
    omega (arith, ints)

-- there a form has its reduced value
pub reduced_at : (a c r_r r_e : ℤ)
    → (pos (unsigned_abs a) *ℤ r_r) +ℤ (c *ℤ neg_ℤ (sign a *ℤ r_e))
    ≡ (pos (unsigned_abs a) *ℤ r_r) -ℤ ((sign a *ℤ c) *ℤ r_e)
reduced_at a c r_r r_e =
    let f = mul_neg_right c (sign a *ℤ r_e) in
    let g = left_comm c (sign a) r_e in
    let h = mul_assoc_int (sign a) c r_e in
    omega (arith, ints)

-- where the equality holds at n / k, |a| times a form's value there is k times its reduced value
pub reduced_where : (a c r_r r_e k n : ℤ) → (k *ℤ r_e) +ℤ (a *ℤ n) ≡ pos 0
    → pos (unsigned_abs a) *ℤ ((k *ℤ r_r) +ℤ (c *ℤ n))
    ≡ k *ℤ ((pos (unsigned_abs a) *ℤ r_r) -ℤ ((sign a *ℤ c) *ℤ r_e))
reduced_where a c r_r r_e k n h =
    let m = pos (unsigned_abs a) in
    let s = sign a in
    let b = mul_distrib_left (k *ℤ r_r) (c *ℤ n) m in
    let d = mul_sub_left (m *ℤ r_r) ((s *ℤ c) *ℤ r_e) k in
    let e = left_comm m k r_r in
    -- m (c n) = (s c) (a n) = - (s c) (k r_e)
    let f : m *ℤ (c *ℤ n) ≡ (s *ℤ c) *ℤ (a *ℤ n) = ap (λ (z : ℤ). z *ℤ (c *ℤ n)) (size_is a)
    ∙ mul_assoc_int s a (c *ℤ n) ∙ ap (λ (z : ℤ). s *ℤ z) (left_comm a c n) ∙ sym (mul_assoc_int s c (a *ℤ n)) in
    let g = ap (λ (z : ℤ). (s *ℤ c) *ℤ z) h in
    let j = mul_distrib_left (k *ℤ r_e) (a *ℤ n) (s *ℤ c) in
    let l = left_comm (s *ℤ c) k r_e in
    let o = mul_zero_right (s *ℤ c) in
    omega (arith, ints)

-- what is asked of a value: it is 0, or it is not negative; a positive factor changes neither
abbrev pub Scales : (ℤ → Type 0) → Type 0
Scales S = (k z : ℤ) → pos 0 <ℤ k → S (k *ℤ z) ↔ S z

pub zero_scales : Scales (λ z. z ≡ pos 0)
zero_scales k z h = (
  λ e. cancel_eq z (pos 0) k h (omega (arith, ints)),
  λ e. ap (λ (y : ℤ). k *ℤ y) e ∙ mul_zero_right k,
)

pub least_scales : Scales (λ z. pos 0 ≤ℤ z)
least_scales k z h = (
  λ e. cancel_le (pos 0) z k h (omega (arith, ints)),
  λ e. mul_not_negative k z (omega (arith, ints)) e,
)

-- a form's value where variable i is n / (k d), in the words of its parts
abbrev pub at_fraction : ℕ → ℤ → List ℤ → ℤ → ℤ → Affine → ℤ
at_fraction i d xs k n f = (k *ℤ rest_over i d xs f) +ℤ (coefficient_of i f *ℤ n)

-- a form without the variable
pub at_fraction-zero : (i : ℕ) (d : ℤ) (xs : List ℤ) (k n : ℤ) (f : Affine) → coefficient_of i f ≡ pos 0
    → at_fraction i d xs k n f ≡ k *ℤ value_over f d xs
at_fraction-zero i d xs k n f e =
    let g = ap (λ (c : ℤ). c *ℤ get_or xs i (pos 0)) e in
    let h = ap (λ (c : ℤ). c *ℤ n) e in
    let r : rest_over i d xs f ≡ value_over f d xs = omega (arith, ints) in
    let s = ap (λ (c : ℤ). k *ℤ c) r in
    omega (arith, ints)

-- one way: what holds at a fraction that the equality allows, holds of the reduced forms
pub reduced_all_to : (S : ℤ → Type 0) → Scales S → (i : ℕ) (e : Affine) (fs : List Affine) (d : ℤ) (xs : List ℤ)
    (k n : ℤ)
    → pos 0 <ℤ k → is_zero (coefficient_of i e) ≡ false → at_fraction i d xs k n e ≡ pos 0
    → All (λ f. S (at_fraction i d xs k n f)) fs → All (λ f. S (value_over f d xs)) (reduced_all i e fs)
reduced_all_to S scales i e fs d xs k n hk has equal all =
    All-append Holds (chosen is_zero i fs) (map (reduced i e) (chosen is_not_zero i fs))
    (chosen_from Holds is_zero i fs (λ j c inside. kept (get_or fs j c) (all j c inside)))
    (All-map Holds (reduced i e) (chosen is_not_zero i fs)
    (chosen_from (λ f. Holds (reduced i e f)) is_not_zero i fs
    (λ j c inside. λ _. changed (get_or fs j c) (all j c inside))))
  where
    Holds : Affine → Type 0
    Holds f = S (value_over f d xs)

    kept : (f : Affine) → S (at_fraction i d xs k n f) → Passing Holds is_zero i f
    kept f h free =
        let z = at_fraction-zero i d xs k n f ((is_zero_iff (coefficient_of i f)).0 free) in
        (scales k (value_over f d xs) hk).0 (rw z at h)

    changed : (f : Affine) → S (at_fraction i d xs k n f) → Holds (reduced i e f)
    changed f h =
        let a = coefficient_of i e in
        let m = pos (unsigned_abs a) in
        let g = (scales m (at_fraction i d xs k n f) (size_positive a has)).1 h in
        let w = reduced_where a (coefficient_of i f) (rest_over i d xs f) (rest_over i d xs e) k n equal in
        let v = value_over-reduced i e f d xs in
        (scales k (value_over (reduced i e f) d xs) hk).0 (rw (w, ← v) at g)

-- the fraction that the equality asks for
abbrev pub asked_of : ℕ → ℤ → List ℤ → Affine → ℤ
asked_of i d xs e = neg_ℤ (sign (coefficient_of i e) *ℤ rest_over i d xs e)

-- the other way: what holds of the reduced forms, holds at the fraction that the equality asks for
pub reduced_all_from : (S : ℤ → Type 0) → Scales S → (i : ℕ) (e : Affine) (fs : List Affine) (d : ℤ) (xs : List ℤ)
    → is_zero (coefficient_of i e) ≡ false
    → All (λ f. S (value_over f d xs)) (reduced_all i e fs)
    → All (λ f. S (at_fraction i d xs (pos (unsigned_abs (coefficient_of i e))) (asked_of i d xs e) f)) fs
reduced_all_from S scales i e fs d xs has all j c inside =
    decided (is_zero (coefficient_of i f)) refl
  where
    f : Affine
    f = get_or fs j c

    m : ℤ
    m = pos (unsigned_abs (coefficient_of i e))

    Holds : Affine → Type 0
    Holds g = S (value_over g d xs)

    decided : (b : Bool) → is_zero (coefficient_of i f) ≡ b → S (at_fraction i d xs m (asked_of i d xs e) f)
    decided true free =
        let front = all_front Holds (chosen is_zero i fs) (map (reduced i e) (chosen is_not_zero i fs)) all in
        let h = chosen_to Holds is_zero i fs front j c inside free in
        let z = at_fraction-zero i d xs m (asked_of i d xs e) f ((is_zero_iff (coefficient_of i f)).0 free) in
        rw z ((scales m (value_over f d xs) (size_positive (coefficient_of i e) has)).1 h)
    decided false other =
        let back = all_back Holds (chosen is_zero i fs) (map (reduced i e) (chosen is_not_zero i fs)) all in
        let each = all_unmapped Holds (reduced i e) (chosen is_not_zero i fs) back in
        let h = chosen_to (λ g. Holds (reduced i e g)) is_not_zero i fs each j c inside (ap not other) in
        let v = value_over-reduced i e f d xs in
        let w = reduced_at (coefficient_of i e) (coefficient_of i f) (rest_over i d xs f) (rest_over i d xs e) in
        rw (w, ← v) h
