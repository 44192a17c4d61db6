-- Order under sums and products; a positive factor cancels (`factor_up`).
use Rattle.std.proofs.Common.{◌≡◌, ℤ, pos, negsuc, ◌+ℤ◌, ◌-ℤ◌, ◌*ℤ◌, ◌≤ℤ◌, ◌<ℤ◌, ◌⊎◌, inl, inr, arith}
use Rattle.std.proofs.lemmas.Int.{ints, by_lt_z}
use Rattle.whole_numbers.proofs.Ring.{mul_sub_right, mul_distrib_right}

-- any two numbers are ordered
pub le_or_lt : (a b : ℤ) → (a ≤ℤ b) ⊎ (b <ℤ a)
le_or_lt a b = by_lt_z b a (λ (h : b <ℤ a). inr h) (λ (h : a ≤ℤ b). inl h)

-- a product of numbers that are not negative is not negative
pub mul_not_negative : (a b : ℤ) → pos 0 ≤ℤ a → pos 0 ≤ℤ b → pos 0 ≤ℤ (a *ℤ b)
mul_not_negative (pos a) (pos b) h k = omega (arith, ints)
mul_not_negative (negsuc a) b h k = absurd (omega (arith, ints))
mul_not_negative (pos a) (negsuc b) h k = absurd (omega (arith, ints))

-- a product of positive numbers is positive
pub mul_positive : (a b : ℤ) → pos 0 <ℤ a → pos 0 <ℤ b → pos 0 <ℤ (a *ℤ b)
mul_positive a b h k =
    let m = mul_not_negative (a -ℤ pos 1) (b -ℤ pos 1) (omega (arith, ints)) (omega (arith, ints)) in
    let s = mul_sub_right a (pos 1) (b -ℤ pos 1) in
    let t = mul_sub_right b (pos 1) a in
    omega (arith, ints)

-- multiplying by a number that is not negative keeps the order
pub mul_le : (a b c : ℤ) → a ≤ℤ b → pos 0 ≤ℤ c → (a *ℤ c) ≤ℤ (b *ℤ c)
mul_le a b c h k =
    let m = mul_not_negative (b -ℤ a) c (omega (arith, ints)) k in
    let s = mul_sub_right b a c in
    omega (arith, ints)

-- the same with the factor in front
pub mul_le_left : (a b c : ℤ) → a ≤ℤ b → pos 0 ≤ℤ c → (c *ℤ a) ≤ℤ (c *ℤ b)
mul_le_left a b c h k = let m = mul_le a b c h k in omega (arith, ints)

-- multiplying by a positive number keeps the strict order
pub mul_lt : (a b c : ℤ) → a <ℤ b → pos 0 <ℤ c → (a *ℤ c) <ℤ (b *ℤ c)
mul_lt a b c h k =
    let m = mul_positive (b -ℤ a) c (omega (arith, ints)) k in
    let s = mul_sub_right b a c in
    omega (arith, ints)

-- the same with the factor in front
pub mul_lt_left : (a b c : ℤ) → a <ℤ b → pos 0 <ℤ c → (c *ℤ a) <ℤ (c *ℤ b)
mul_lt_left a b c h k = let m = mul_lt a b c h k in omega (arith, ints)

-- multiplying by a number that is not positive turns the order
pub mul_le_turned : (a b c : ℤ) → a ≤ℤ b → c ≤ℤ pos 0 → (b *ℤ c) ≤ℤ (a *ℤ c)
mul_le_turned a b c h k =
    let m = mul_not_negative (b -ℤ a) (pos 0 -ℤ c) (omega (arith, ints)) (omega (arith, ints)) in
    let s = mul_sub_right (pos 0) c (b -ℤ a) in
    let t = mul_sub_right b a c in
    omega (arith, ints)

-- a product of numbers of opposite signs is not positive
pub mul_opposite : (a b : ℤ) → pos 0 ≤ℤ a → b ≤ℤ pos 0 → (a *ℤ b) ≤ℤ pos 0
mul_opposite a b h k = let m = mul_le_turned (pos 0) a b h k in omega (arith, ints)

-- a positive factor on both sides of an inequality cancels
pub cancel_le : (a b c : ℤ) → pos 0 <ℤ c → (a *ℤ c) ≤ℤ (b *ℤ c) → a ≤ℤ b
cancel_le a b c k h =
    by_lt_z b a
    (λ (l : b <ℤ a). let m = mul_lt b a c l k in absurd (omega (arith, ints)))
    (λ (l : a ≤ℤ b). l)

-- the same of a strict inequality, where the factor may be 0
pub cancel_lt : (a b c : ℤ) → pos 0 ≤ℤ c → (a *ℤ c) <ℤ (b *ℤ c) → a <ℤ b
cancel_lt a b c k h =
    by_lt_z a b
    (λ (l : a <ℤ b). l)
    (λ (l : b ≤ℤ a). let m = mul_le b a c l k in absurd (omega (arith, ints)))

-- a positive factor on both sides of an equation cancels
pub cancel_eq : (a b c : ℤ) → pos 0 <ℤ c → a *ℤ c ≡ b *ℤ c → a ≡ b
cancel_eq a b c k h =
    let l = cancel_le a b c k (omega (arith, ints)) in
    let m = cancel_le b a c k (omega (arith, ints)) in
    omega (arith, ints)

-- a multiple of d above -d is not below 0
pub factor_up : (d w : ℤ) → pos 0 <ℤ d → (pos 0 -ℤ d) <ℤ (d *ℤ w) → pos 0 ≤ℤ w
factor_up d w k h =
    let s = mul_distrib_right w (pos 1) d in
    let l = cancel_lt (pos 0) (w +ℤ pos 1) d (omega (arith, ints)) (omega (arith, ints)) in
    omega (arith, ints)

-- a multiple of d below d is not above 0
pub factor_down : (d w : ℤ) → pos 0 <ℤ d → (d *ℤ w) <ℤ d → w ≤ℤ pos 0
factor_down d w k h =
    let l = cancel_lt w (pos 1) d (omega (arith, ints)) (omega (arith, ints)) in
    omega (arith, ints)

-- a multiple of d between -d and d is 0
pub factor_zero : (d w : ℤ) → pos 0 <ℤ d → (pos 0 -ℤ d) <ℤ (d *ℤ w) → (d *ℤ w) <ℤ d → w ≡ pos 0
factor_zero d w k below above = let l = factor_up d w k below in let m =
    factor_down d w k above in omega (arith, ints)

pub ruleset order_laws = (mul_le, mul_lt, mul_le_turned)

pub ruleset cancel_laws = (cancel_le, cancel_lt)

pub ruleset factor_laws = (factor_zero)

-- the other factor of a positive product, one being positive
pub positive_factor : (g d : ℤ) → pos 0 <ℤ g → pos 0 <ℤ (g *ℤ d) → pos 0 <ℤ d
positive_factor g d h k = elim (le_or_lt d (pos 0)) [
  | inl l ↦ let o = mul_opposite g d (omega (arith, ints)) l in absurd (omega (arith, ints))
  | inr l ↦ l
]
