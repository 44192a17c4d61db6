-- How many turns a source's loop has, by its condition at turn 0 and its stride; its turns as the values of a loop.
use Rattle.scop_syntax.proofs.Common.{◌≡◌, ℕ, zero, suc, ◌<◌, ℤ, pos, negsuc, List, length, ◌⊎◌, inl, inr, ap, ap₂, sym}
use Rattle.scop_syntax.proofs.Common.{refl, ◌∙◌, ◌++◌, map, arith, ◌+◌, ◌+ℤ◌, ◌-ℤ◌, ◌*ℤ◌, ◌≤ℤ◌, ◌<ℤ◌, ◌↔◌, neg_ℤ}
use Rattle.scop_syntax.proofs.Common.{unsigned_abs, flat_map, range_with_len, ints, map-append, value_of, floor}
use Rattle.scop_syntax.proofs.Common.{floor_is, floor_at_least, le_or_lt, mul_assoc_int, mul_comm_int, mul_neg_left}
use Rattle.scop_syntax.proofs.Common.{mul_one_left, mul_zero_right, Head, IsHead, own, RunsFor, condition_at}
use Rattle.scop_syntax.proofs.Common.{most_turns, dot_last}
use Rattle.scop_syntax.proofs.Loops.{below_most}
use Rattle.loop_tree.specs.Walk.{along}

-- the stride goes against the iterator's sign in the condition
slope : (c s : ℤ) → ((c ≡ negsuc 0) × (pos 1 ≤ℤ s)) ⊎ ((c ≡ pos 1) × (s ≤ℤ negsuc 0))
    → c *ℤ s ≡ neg_ℤ (pos (unsigned_abs s))
slope c (pos n) (inl d) =
    let e = ap (λ z. z *ℤ pos n) d.0 in
    let m = mul_neg_left (pos 1) (pos n) in
    let o = mul_one_left (pos n) in
    omega (arith, ints)
slope c (negsuc n) (inl d) = absurd (let low = d.1 in omega (arith, ints))
slope c (pos n) (inr d) = absurd (let high = d.1 in omega (arith, ints))
slope c (negsuc n) (inr d) =
    let e = ap (λ z. z *ℤ negsuc n) d.0 in
    let o = mul_one_left (negsuc n) in
    omega (arith, ints)

stride_some : (c s : ℤ) → ((c ≡ negsuc 0) × (pos 1 ≤ℤ s)) ⊎ ((c ≡ pos 1) × (s ≤ℤ negsuc 0))
    → pos 0 <ℤ pos (unsigned_abs s)
stride_some c (pos n) (inl d) = let low = d.1 in omega (arith, ints)
stride_some c (negsuc n) d = omega (arith, ints)
stride_some c (pos n) (inr d) = absurd (let high = d.1 in omega (arith, ints))

-- a stride is not 0
pub stride_positive : (n : ℕ) (head : Head) → IsHead n head → pos 0 <ℤ pos (unsigned_abs head.stride)
stride_positive n head is = stride_some (own n head) head.stride is.direction

-- the condition falls by the stride a turn
pub condition_turn : (head : Head) (point : List ℤ) → IsHead (length point) head → (x : ℤ)
    → condition_at head point x ≡ condition_at head point (pos 0) -ℤ (x *ℤ pos (unsigned_abs head.stride))
condition_turn head point is x =
    let first = value_of head.first point in
    let a = first +ℤ (head.stride *ℤ pos 0) in
    let b = first +ℤ (head.stride *ℤ x) in
    let c = own (length point) head in
    let d = pos (unsigned_abs head.stride) in
    let z = mul_zero_right head.stride in
    let between : b -ℤ a ≡ head.stride *ℤ x = omega (arith, ints) in
    let g = ap (λ y. c *ℤ y) between in
    let l = dot_last head.condition.coefficients point a b in
    let assoc = mul_assoc_int c head.stride x in
    let s = ap (λ y. y *ℤ x) (slope c head.stride is.direction) in
    let n = mul_neg_left d x in
    let t = mul_comm_int d x in
    omega (arith, ints)

-- so it holds up to the last turn
pub holds_until : (head : Head) (point : List ℤ) → IsHead (length point) head → (x : ℤ)
    → (x ≤ℤ floor (condition_at head point (pos 0)) (pos (unsigned_abs head.stride)))
    ↔ (pos 0 ≤ℤ condition_at head point x)
holds_until head point is x =
    let c = condition_at head point (pos 0) in
    let d = pos (unsigned_abs head.stride) in
    let up = stride_positive (length point) head is in
    let f = floor_at_least c d (floor c d) x up (floor_is c d up) in
    let t = condition_turn head point is x in (
      (λ h. let k = f.0 h in omega (arith, ints)),
      (λ h. f.1 (omega (arith, ints))),
    )

below_turns : (z : ℤ) (k : ℕ) → k < most_turns z → pos k ≤ℤ z
below_turns (pos n) k h = omega (arith, ints)
below_turns (negsuc n) k h = absurd (omega arith)

-- and has so many turns
pub runs_until : (head : Head) (point : List ℤ) → IsHead (length point) head
    → RunsFor (λ k. condition_at head point (pos k))
    (most_turns (floor (condition_at head point (pos 0)) (pos (unsigned_abs head.stride)) -ℤ pos 0))
runs_until head point is =
    let q = floor (condition_at head point (pos 0)) (pos (unsigned_abs head.stride)) in
    let m = most_turns (q -ℤ pos 0) in
    record {
      holds = λ k h.
          let b = below_turns (q -ℤ pos 0) k h in
          (holds_until head point is (pos k)).0 (omega (arith, ints));
      fails = by_order (le_or_lt (pos 0) (condition_at head point (pos m)));
    }
  where
    by_order : let q = floor (condition_at head point (pos 0)) (pos (unsigned_abs head.stride)) in
        let m = most_turns (q -ℤ pos 0) in
        (pos 0 ≤ℤ condition_at head point (pos m)) ⊎ (condition_at head point (pos m) <ℤ pos 0)
        → condition_at head point (pos m) <ℤ pos 0
    by_order (inr l) = l
    by_order (inl l) =
        let q = floor (condition_at head point (pos 0)) (pos (unsigned_abs head.stride)) in
        let p = below_most (q -ℤ pos 0) in
        let b = (holds_until head point is (pos (most_turns (q -ℤ pos 0)))).1 l in
        absurd (omega (arith, ints))

-- the bodies of values from k on, as those of turns
pub along_turns : {A B C : Type 0} (f : A → C) (g : B → C) (body : ℤ → List A) (turn : ℕ → List B) (n k : ℕ)
    → ((j : ℕ) → map f (body (pos j)) ≡ map g (turn j))
    → map f (along body (pos k) n) ≡ map g (flat_map turn (range_with_len k n))
along_turns f g body turn zero k each = refl
along_turns {A} {B} {C} f g body turn (suc n) k each =
    let next : pos k +ℤ pos 1 ≡ pos (k + 1) = omega (arith, ints) in
    map-append f (body (pos k)) (along body (pos k +ℤ pos 1) n)
    ∙ (ap₂ (λ (xs ys : List C). xs ++ ys) (each k)
    (ap (λ (x : ℤ). map f (along body x n)) next ∙ along_turns f g body turn n (k + 1) each)
    ∙ sym (map-append g (turn k) (flat_map turn (range_with_len (k + 1) n))))
