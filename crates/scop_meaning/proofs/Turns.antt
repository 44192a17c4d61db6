-- A condition that falls by the stride a turn, and how many turns that makes.
use Rattle.scop_syntax.proofs.Common.{◌≡◌, ℕ, ◌+◌, ◌*◌, ◌/◌, ◌<◌, ◌≤◌, inl, inr, ◌⊎◌, ap, sym, arith, mul-le-mul_left}
use Rattle.scop_syntax.proofs.Common.{ℤ, pos, negsuc, ◌+ℤ◌, ◌-ℤ◌, ◌*ℤ◌, ◌≤ℤ◌, List, length, unsigned_abs, FitsSigned}
use Rattle.scop_syntax.proofs.Common.{w64, ints, value_of, mul_neg_left, mul_one_left, mul_zero_right, Head, IsHead}
use Rattle.scop_syntax.proofs.Common.{own, RunsFor, condition_at, dot_last}
use Rattle.std.proofs.Math.Nat.{lt-mul-div-succ, div-mul-le_self}

-- the stride goes against the iterator's sign in the condition
goes_down : (c s : ℤ) (k : ℕ) → ((c ≡ negsuc 0) × (pos 1 ≤ℤ s)) ⊎ ((c ≡ pos 1) × (s ≤ℤ negsuc 0))
    → (c *ℤ (s *ℤ pos k)) +ℤ pos (unsigned_abs s * k) ≡ pos 0
goes_down c (pos n) k (inl d) =
    let e = ap (λ z. z *ℤ (pos n *ℤ pos k)) d.0 in
    let m = mul_neg_left (pos 1) (pos n *ℤ pos k) in
    let o = mul_one_left (pos n *ℤ pos k) in
    omega (arith, ints)
goes_down c (negsuc n) k (inl d) = absurd (let low = d.1 in omega (arith, ints))
goes_down c (pos n) k (inr d) = absurd (let high = d.1 in omega (arith, ints))
goes_down c (negsuc n) k (inr d) =
    let e = ap (λ z. z *ℤ (negsuc n *ℤ pos k)) d.0 in
    let o = mul_one_left (negsuc n *ℤ pos k) in
    omega (arith, ints)

condition_after : (head : Head) (point : List ℤ) → IsHead (length point) head → (k : ℕ)
    → condition_at head point (pos k) +ℤ pos (unsigned_abs head.stride * k) ≡ condition_at head point (pos 0)
condition_after head point is k =
    let first = value_of head.first point in
    let a = first +ℤ (head.stride *ℤ pos 0) in
    let b = first +ℤ (head.stride *ℤ pos k) in
    let c = own (length point) head in
    let z = mul_zero_right head.stride in
    let between : b -ℤ a ≡ head.stride *ℤ pos k = omega (arith, ints) in
    let g = ap (λ y. c *ℤ y) between in
    let l = dot_last head.condition.coefficients point a b in
    let d = goes_down c head.stride k is.direction in
    omega (arith, ints)

stride_positive : (c s : ℤ) → ((c ≡ negsuc 0) × (pos 1 ≤ℤ s)) ⊎ ((c ≡ pos 1) × (s ≤ℤ negsuc 0)) → 0 < unsigned_abs s
stride_positive c (pos n) (inl d) = let low = d.1 in omega (arith, ints)
stride_positive c (negsuc n) d = omega arith
stride_positive c (pos n) (inr d) = absurd (let high = d.1 in omega (arith, ints))

runs_for : (c : ℕ → ℤ) (s n : ℕ) → 0 < s → c 0 ≡ pos n → ((k : ℕ) → c k +ℤ pos (s * k) ≡ c 0) → RunsFor c (n / s + 1)
runs_for c s n up first down = record {
  holds = λ k h.
      let less : k ≤ n / s = omega arith in
      let m : s * k ≤ s * (n / s) = mul-le-mul_left s less in
      let q = div-mul-le_self n s in
      let e = down k in
      omega (arith, ints);
  fails =
      let q = lt-mul-div-succ n up in
      let e = down (n / s + 1) in
      omega (arith, ints);
}

-- the first iterator is that of turn 0
pub first_fits : (head : Head) (point : List ℤ) → FitsSigned w64 (value_of head.first point +ℤ (head.stride *ℤ pos 0))
    → FitsSigned w64 (value_of head.first point)
first_fits head point fits =
    let z = mul_zero_right head.stride in
    let e : value_of head.first point +ℤ (head.stride *ℤ pos 0) ≡ value_of head.first point = omega (arith, ints) in
    rw e at fits

pub runs_head : (head : Head) (point : List ℤ) (z : ℤ) → IsHead (length point) head → pos 0 ≤ℤ z → z
    ≡ condition_at head point (pos 0)
    → RunsFor (λ k. condition_at head point (pos k)) (unsigned_abs z / unsigned_abs head.stride + 1)
runs_head head point (pos n) is up e =
    runs_for (λ k. condition_at head point (pos k)) (unsigned_abs head.stride) n
    (stride_positive (own (length point) head) head.stride is.direction) (sym e)
    (condition_after head point is)
runs_head head point (negsuc n) is up e = absurd (omega (arith, ints))
