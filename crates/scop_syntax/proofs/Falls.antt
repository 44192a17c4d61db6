-- In a well-formed tree each loop's condition falls.
use Rattle.whole_numbers.proofs.Common.{◌≡◌, ◌+◌, ℤ, pos, List, [], ◌∷◌, ◌++◌, length, get_or, inl, inr, ap, arith}
use Rattle.whole_numbers.proofs.Common.{negsuc, ◌⊎◌, ◌≤ℤ◌, ◌+ℤ◌, ◌-ℤ◌, ◌*ℤ◌, ◌<ℤ◌, ints, dot, value_of, dot-nil}
use Rattle.whole_numbers.proofs.Common.{mul_distrib_left, mul_sub_left, mul_one_right, mul_one_left, mul_neg_left}
use Rattle.scop_syntax.specs.Tree.{Head}
use Rattle.scop_syntax.specs.Walk.{condition_at, Falls}
use Rattle.scop_syntax.specs.Kernel.{own, IsHead}

-- a dot product changes with the last entry by its coefficient times the difference
pub dot_last : (cs ps : List ℤ) (a b : ℤ)
    → dot cs (ps ++ b ∷ []) ≡ dot cs (ps ++ a ∷ []) +ℤ (get_or cs (length ps) (pos 0) *ℤ (b -ℤ a))
dot_last [] ps a b = omega (arith, ints)
dot_last (c ∷ cs) [] a b = let s = mul_sub_left b a c in let e = dot-nil cs in omega (arith, ints)
dot_last (c ∷ cs) (p ∷ ps) a b = let r = dot_last cs ps a b in omega (arith, ints)

condition_goes_down : (head : Head) (point : List ℤ) → (own (length point) head *ℤ head.stride) <ℤ pos 0
    → Falls (λ k. condition_at head point (pos k))
condition_goes_down head point h k =
    let a = value_of head.first point +ℤ (head.stride *ℤ pos k) in
    let b = value_of head.first point +ℤ (head.stride *ℤ pos (k + 1)) in
    let c = own (length point) head in
    let s = mul_distrib_left (pos k) (pos 1) head.stride in
    let o = mul_one_right head.stride in
    let e : pos (k + 1) ≡ pos k +ℤ pos 1 = omega (arith, ints) in
    let f = ap (λ z. head.stride *ℤ z) e in
    let d : b -ℤ a ≡ head.stride = omega (arith, ints) in
    let g = ap (λ z. c *ℤ z) d in
    let l = dot_last head.condition.coefficients point a b in
    omega (arith, ints)

-- a well-formed head has its stride against the sign of its iterator in the condition
against : (c s : ℤ) → ((c ≡ negsuc 0) × (pos 1 ≤ℤ s)) ⊎ ((c ≡ pos 1) × (s ≤ℤ negsuc 0)) → (c *ℤ s) <ℤ pos 0
against c s (inl d) =
    let e = ap (λ z. z *ℤ s) d.0 in
    let m = mul_neg_left (pos 1) s in
    let o = mul_one_left s in
    let up = d.1 in
    omega (arith, ints)
against c s (inr d) =
    let e = ap (λ z. z *ℤ s) d.0 in
    let o = mul_one_left s in
    let down = d.1 in
    omega (arith, ints)

pub condition_falls : (head : Head) (point : List ℤ) → IsHead (length point) head
    → Falls (λ k. condition_at head point (pos k))
condition_falls head point is =
    condition_goes_down head point (against (own (length point) head) head.stride is.direction)
