-- Ring laws of whole numbers: products, sums, negation.
use Rattle.std.proofs.Common.{◌≡◌, ℕ, ℤ, pos, ◌*◌, ◌+ℤ◌, ◌-ℤ◌, ◌*ℤ◌, neg_ℤ, ap, ◌∙◌, sym, arith}
use Rattle.std.proofs.lemmas.Int.{ints}
use borrow.Author.Differences.{up, down, sum_is_lem, product_is}

-- the order of the factors is free
pub mul_comm_int : (a b : ℤ) → a *ℤ b ≡ b *ℤ a
mul_comm_int a b = omega (arith, ints)

-- (a + b) c = a c + b c
pub mul_distrib_right : (a b c : ℤ) → (a +ℤ b) *ℤ c ≡ (a *ℤ c) +ℤ (b *ℤ c)
mul_distrib_right a b c =
    omega (arith, ints, ap (λ (n : ℕ). n * up c) (sum_is_lem a b), ap (λ (n : ℕ). n * down c) (sum_is_lem a b))

-- c (a + b) = c a + c b
pub mul_distrib_left : (a b c : ℤ) → c *ℤ (a +ℤ b) ≡ (c *ℤ a) +ℤ (c *ℤ b)
mul_distrib_left a b c = let d = mul_distrib_right a b c in omega (arith, ints)

-- (- a) b = - (a b)
pub mul_neg_left : (a b : ℤ) → neg_ℤ a *ℤ b ≡ neg_ℤ (a *ℤ b)
mul_neg_left a b =
    let d = mul_distrib_right (neg_ℤ a) a b in
    let z : neg_ℤ a +ℤ a ≡ pos 0 = omega (arith, ints) in
    let e = ap (λ (k : ℤ). k *ℤ b) z in
    omega (arith, ints)

-- a (- b) = - (a b)
pub mul_neg_right : (a b : ℤ) → a *ℤ neg_ℤ b ≡ neg_ℤ (a *ℤ b)
mul_neg_right a b = let e = mul_neg_left b a in omega (arith, ints)

-- (a - b) c = a c - b c
pub mul_sub_right : (a b c : ℤ) → (a -ℤ b) *ℤ c ≡ (a *ℤ c) -ℤ (b *ℤ c)
mul_sub_right a b c =
    let d = mul_distrib_right (a -ℤ b) b c in
    let z : (a -ℤ b) +ℤ b ≡ a = omega (arith, ints) in
    let e = ap (λ (k : ℤ). k *ℤ c) z in
    omega (arith, ints)

-- c (a - b) = c a - c b
pub mul_sub_left : (a b c : ℤ) → c *ℤ (a -ℤ b) ≡ (c *ℤ a) -ℤ (c *ℤ b)
mul_sub_left a b c = let d = mul_sub_right a b c in omega (arith, ints)

-- the grouping of the factors is free
pub mul_assoc_int : (a b c : ℤ) → (a *ℤ b) *ℤ c ≡ a *ℤ (b *ℤ c)
mul_assoc_int a b c =
    omega (
      arith,
      ints,
      ap (λ (n : ℕ). n * up c) (product_is a b).0,
      ap (λ (n : ℕ). n * down c) (product_is a b).0,
      ap (λ (n : ℕ). n * up c) (product_is a b).1,
      ap (λ (n : ℕ). n * down c) (product_is a b).1,
      ap (λ (n : ℕ). n * up a) (product_is b c).0,
      ap (λ (n : ℕ). n * down a) (product_is b c).0,
      ap (λ (n : ℕ). n * up a) (product_is b c).1,
      ap (λ (n : ℕ). n * down a) (product_is b c).1,
    )

-- a (b c) = b (a c)
pub left_comm : (a b c : ℤ) → a *ℤ (b *ℤ c) ≡ b *ℤ (a *ℤ c)
left_comm a b c = sym (mul_assoc_int a b c) ∙ ap (λ (k : ℤ). k *ℤ c) (mul_comm_int a b) ∙ mul_assoc_int b a c

-- a factor 1 changes nothing
pub mul_one_left : (a : ℤ) → pos 1 *ℤ a ≡ a
mul_one_left a = omega (arith, ints)

-- a factor 1 changes nothing
pub mul_one_right : (a : ℤ) → a *ℤ pos 1 ≡ a
mul_one_right a = omega (arith, ints)

-- a factor 0 makes 0
pub mul_zero_left : (a : ℤ) → pos 0 *ℤ a ≡ pos 0
mul_zero_left a = omega (arith, ints)

-- a factor 0 makes 0
pub mul_zero_right : (a : ℤ) → a *ℤ pos 0 ≡ pos 0
mul_zero_right a = omega (arith, ints)

-- the grouping of the summands is free
pub add_assoc_int : (a b c : ℤ) → (a +ℤ b) +ℤ c ≡ a +ℤ (b +ℤ c)
add_assoc_int a b c = omega (arith, ints)

-- the order of the summands is free
pub add_comm_int : (a b : ℤ) → a +ℤ b ≡ b +ℤ a
add_comm_int a b = omega (arith, ints)

-- 0 changes nothing
pub add_zero_left : (a : ℤ) → pos 0 +ℤ a ≡ a
add_zero_left a = omega (arith, ints)

-- a number and its negation make 0
pub add_neg_left : (a : ℤ) → neg_ℤ a +ℤ a ≡ pos 0
add_neg_left a = omega (arith, ints)

pub ruleset ring_laws = (
  add_assoc_int,
  add_comm_int,
  add_zero_left,
  add_neg_left,
  mul_assoc_int,
  mul_comm_int,
  mul_one_left,
  mul_distrib_right,
  mul_sub_right,
)
