-- Floors and ceilings of quotients (`floor_is`, `floor_unique`, `floor_at_least`).
use Rattle.std.proofs.Common.{◌≡◌, ◌%◌, ◌<◌, ℤ, pos, negsuc, ◌+ℤ◌, ◌*ℤ◌, neg_ℤ, ◌≤ℤ◌, ◌<ℤ◌, ◌↔◌, arith}
use Rattle.std.proofs.Math.Nat.{mod-lt}
use Rattle.std.proofs.lemmas.Nat.{div-add-mod'}
use Rattle.std.proofs.lemmas.Int.{ints}
use Rattle.whole_numbers.specs.Division.{IsFloor, IsCeiling}
use Rattle.whole_numbers.specs.Floor.{floor, ceiling}
use Rattle.whole_numbers.proofs.Ring.{mul_distrib_right, mul_neg_left}
use Rattle.whole_numbers.proofs.Order.{mul_le, cancel_lt}

-- `floor` is the floor
pub floor_is : (a d : ℤ) → pos 0 <ℤ d → IsFloor a d (floor a d)
floor_is (pos n) (pos d) h =
    let whole = div-add-mod' n d in
    let rest : n % d < d = mod-lt n (omega (arith, ints)) in
    record { below = omega (arith, ints); above = omega (arith, ints) }
floor_is (negsuc n) (pos d) h =
    let whole = div-add-mod' n d in
    let rest : n % d < d = mod-lt n (omega (arith, ints)) in
    record { below = omega (arith, ints); above = omega (arith, ints) }
floor_is a (negsuc d) h = absurd (omega (arith, ints))

-- what is not above the quotient is not above the floor
pub floor_greatest : (a d q k : ℤ) → pos 0 <ℤ d → IsFloor a d q → (k *ℤ d) ≤ℤ a → k ≤ℤ q
floor_greatest a d q k h f m =
    let s = mul_distrib_right q (pos 1) d in
    let l = cancel_lt k (q +ℤ pos 1) d (omega (arith, ints)) (omega (arith, ints)) in
    omega (arith, ints)

-- k <= floor (a / d) exactly where k d <= a
pub floor_at_least : (a d q k : ℤ) → pos 0 <ℤ d → IsFloor a d q → (k ≤ℤ q) ↔ ((k *ℤ d) ≤ℤ a)
floor_at_least a d q k h f = (
  λ (l : k ≤ℤ q). let m = mul_le k q d l (omega (arith, ints)) in omega (arith, ints),
  λ (l : (k *ℤ d) ≤ℤ a). floor_greatest a d q k h f l,
)

-- floor (a / d) <= k exactly where a < k d + d
pub floor_at_most : (a d q k : ℤ) → pos 0 <ℤ d → IsFloor a d q → (q ≤ℤ k) ↔ (a <ℤ ((k *ℤ d) +ℤ d))
floor_at_most a d q k h f = (
  λ (l : q ≤ℤ k). let m = mul_le q k d l (omega (arith, ints)) in omega (arith, ints),
  λ (l : a <ℤ ((k *ℤ d) +ℤ d)).
      let s = mul_distrib_right k (pos 1) d in
      let m = cancel_lt q (k +ℤ pos 1) d (omega (arith, ints)) (omega (arith, ints)) in
      omega (arith, ints),
)

-- there is one floor
pub floor_unique : (a d p q : ℤ) → pos 0 <ℤ d → IsFloor a d p → IsFloor a d q → p ≡ q
floor_unique a d p q h f g =
    let l = floor_greatest a d p q h f g.below in
    let m = floor_greatest a d q p h g f.below in
    omega (arith, ints)

-- the ceiling is the floor of the negation, negated
pub ceiling_from_floor : (a d q : ℤ) → IsFloor (neg_ℤ a) d q → IsCeiling a d (neg_ℤ q)
ceiling_from_floor a d q f =
    let s = mul_neg_left q d in
    record { above = omega (arith, ints); below = omega (arith, ints) }

-- `ceiling` is the ceiling
pub ceiling_is : (a d : ℤ) → pos 0 <ℤ d → IsCeiling a d (ceiling a d)
ceiling_is a d h = ceiling_from_floor a d (floor (neg_ℤ a) d) (floor_is (neg_ℤ a) d h)

-- ceiling (a / d) <= k exactly where a <= k d
pub ceiling_at_most : (a d q k : ℤ) → pos 0 <ℤ d → IsCeiling a d q → (q ≤ℤ k) ↔ (a ≤ℤ (k *ℤ d))
ceiling_at_most a d q k h c = (
  λ (l : q ≤ℤ k). let m = mul_le q k d l (omega (arith, ints)) in omega (arith, ints),
  λ (l : a ≤ℤ (k *ℤ d)).
      let s = mul_distrib_right k (pos 1) d in
      let m = cancel_lt q (k +ℤ pos 1) d (omega (arith, ints)) (omega (arith, ints)) in
      omega (arith, ints),
)

-- k <= ceiling (a / d) exactly where k d < a + d
pub ceiling_at_least : (a d q k : ℤ) → pos 0 <ℤ d → IsCeiling a d q → (k ≤ℤ q) ↔ ((k *ℤ d) <ℤ (a +ℤ d))
ceiling_at_least a d q k h c = (
  λ (l : k ≤ℤ q). let m = mul_le k q d l (omega (arith, ints)) in omega (arith, ints),
  λ (l : (k *ℤ d) <ℤ (a +ℤ d)).
      let s = mul_distrib_right q (pos 1) d in
      let m = cancel_lt k (q +ℤ pos 1) d (omega (arith, ints)) (omega (arith, ints)) in
      omega (arith, ints),
)

-- there is one ceiling
pub ceiling_unique : (a d p q : ℤ) → pos 0 <ℤ d → IsCeiling a d p → IsCeiling a d q → p ≡ q
ceiling_unique a d p q h f g =
    let l = (ceiling_at_most a d p q h f).1 g.above in
    let m = (ceiling_at_most a d q p h g).1 f.above in
    omega (arith, ints)

pub ruleset rounding_laws = (floor_is, ceiling_from_floor)

pub ruleset floor_laws = (floor_at_least, floor_at_most)

pub ruleset ceiling_laws = (ceiling_at_most, ceiling_at_least)
