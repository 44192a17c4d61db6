-- The functions at the head of an emitted text: C's quotients as floors and ceilings, choices by < and by <=.
use Rattle.scop_syntax.proofs.Common.{◌≡◌, ◌∙◌, ap, sym, subst, refl, T, not, ℕ, Bool, true, false, pos, arith, ints, ℤ}
use Rattle.scop_syntax.proofs.Common.{negsuc, neg_ℤ, ◌+ℤ◌, ◌-ℤ◌, ◌<ℤ◌, ◌≤ℤ◌, if◌then◌else◌, ◌*ℤ◌, ◌↔◌, List, le_z}
use Rattle.scop_syntax.proofs.Common.{IsFloor, IsCeiling, floor, ceiling, floor_is, floor_unique, ceiling_is}
use Rattle.scop_syntax.proofs.Common.{mul_comm_int, mul_neg_left, Affine, value_of, le_z_holds, holds_le_z}
use Rattle.std.specs.Int.Signed.{lt_z, quot_z, lt_z_yes, lt_z_no}
use Rattle.whole_numbers.proofs.Floors.{ceiling_unique}
use Rattle.loop_tree.specs.Tree.{multiple}
use Rattle.loop_tree.specs.Walk.{max_z, min_z, holds}
use Rattle.c_printer.specs.Divisions.{floor_function, ceiling_function, greater_function, less_function}

-- of a number that is not negative the fraction is above the quotient
dropped : (a d : ℤ) → pos 0 ≤ℤ a → pos 0 <ℤ d → quot_z a d ≡ floor a d
dropped (pos a) (pos d) h g = refl
dropped (negsuc a) d h g = absurd (omega (arith, ints, h))
dropped (pos a) (negsuc d) h g = absurd (omega (arith, ints, g))

-- the floor of n from that of - n + d - 1
negated : (n d q : ℤ) → IsFloor ((neg_ℤ n +ℤ d) -ℤ pos 1) d q → IsFloor n d (neg_ℤ q)
negated n d q f =
    let s = mul_neg_left q d in
    let b = f.below in
    let a = f.above in
    record { below = omega (arith, ints, s, b, a); above = omega (arith, ints, s, b, a) }

-- the ceiling of n from the floor of n + d - 1
raised : (n d q : ℤ) → IsFloor ((n +ℤ d) -ℤ pos 1) d q → IsCeiling n d q
raised n d q f =
    let b = f.below in
    let a = f.above in
    record { above = omega (arith, ints, b, a); below = omega (arith, ints, b, a) }

holds_lt_z : (a b : ℤ) → lt_z a b ≡ true → a <ℤ b
holds_lt_z a b e = lt_z_yes (subst T (sym e) tt)

fails_lt_z : (a b : ℤ) → lt_z a b ≡ false → b ≤ℤ a
fails_lt_z a b e = lt_z_no (subst (λ x. T (not x)) (sym e) tt)

true_false : (x : Bool) → x ≡ true → x ≡ false → ⊥
true_false true e f = cc
true_false false e f = cc

not_negative : (n : ℕ) → lt_z (pos n) (pos 0) ≡ false
not_negative n = by_test (lt_z (pos n) (pos 0)) refl
  where
    by_test : (x : Bool) → lt_z (pos n) (pos 0) ≡ x → lt_z (pos n) (pos 0) ≡ false
    by_test true e = let l = holds_lt_z (pos n) (pos 0) e in absurd (omega (arith, ints, l))
    by_test false e = e

pub is_floor : (n d : ℤ) → pos 0 <ℤ d → floor_function n d ≡ floor n d
is_floor (pos n) d h =
    let m = (neg_ℤ (pos n) +ℤ d) -ℤ pos 1 in
    ap (λ (t : Bool). if t then neg_ℤ (quot_z m d) else quot_z (pos n) d) (not_negative n)
    ∙ dropped (pos n) d (omega (arith, ints)) h
is_floor (negsuc n) d h =
    let m = (neg_ℤ (negsuc n) +ℤ d) -ℤ pos 1 in
    ap neg_ℤ (dropped m d (omega (arith, ints, h)) h)
    ∙ floor_unique (negsuc n) d (neg_ℤ (floor m d)) (floor (negsuc n) d) h
    (negated (negsuc n) d (floor m d) (floor_is m d h)) (floor_is (negsuc n) d h)

pub is_ceiling : (n d : ℤ) → pos 0 <ℤ d → ceiling_function n d ≡ ceiling n d
is_ceiling (pos n) d h =
    let m = (pos n +ℤ d) -ℤ pos 1 in
    ap (λ (t : Bool). if t then neg_ℤ (quot_z (neg_ℤ (pos n)) d) else quot_z m d) (not_negative n)
    ∙ (dropped m d (omega (arith, ints, h)) h
    ∙ ceiling_unique (pos n) d (floor m d) (ceiling (pos n) d) h (raised (pos n) d (floor m d) (floor_is m d h))
    (ceiling_is (pos n) d h))
is_ceiling (negsuc n) d h = ap neg_ℤ (dropped (neg_ℤ (negsuc n)) d (omega (arith, ints)) h)

pub is_greater : (a b : ℤ) → greater_function a b ≡ max_z a b
is_greater a b = by_tests (lt_z b a) (le_z a b) refl refl
  where
    by_tests : (x y : Bool) → lt_z b a ≡ x → le_z a b ≡ y → (if x then a else b) ≡ (if y then b else a)
    by_tests true true e f =
        let l = holds_lt_z b a e in let m = holds_le_z a b f in absurd (omega (arith, ints, l, m))
    by_tests true false e f = refl
    by_tests false true e f = refl
    by_tests false false e f = absurd (true_false (le_z a b) (le_z_holds a b (fails_lt_z b a e)) f)

pub is_less : (a b : ℤ) → less_function a b ≡ min_z a b
is_less a b = by_tests (lt_z a b) (le_z a b) refl refl
  where
    by_tests : (x y : Bool) → lt_z a b ≡ x → le_z a b ≡ y → (if x then a else b) ≡ (if y then a else b)
    by_tests true true e f = refl
    by_tests true false e f =
        let l = holds_lt_z a b e in absurd (true_false (le_z a b) (le_z_holds a b (omega (arith, ints, l))) f)
    by_tests false true e f = let l = fails_lt_z a b e in let m = holds_le_z a b f in omega (arith, ints, l, m)
    by_tests false false e f = refl

-- what a floor times its divisor leaves nothing of is not above that product
pub is_multiple : (z d : ℤ) → pos 0 <ℤ d
    → (le_z z (floor z d *ℤ d) ≡ true) ↔ (z -ℤ (d *ℤ floor_function z d) ≡ pos 0)
is_multiple z d h =
    let f = (floor_is z d h).below in
    let c = mul_comm_int d (floor z d) in
    let s = ap (λ (q : ℤ). d *ℤ q) (is_floor z d h) in (
      λ (e : le_z z (floor z d *ℤ d) ≡ true).
          let l = holds_le_z z (floor z d *ℤ d) e in omega (arith, ints, l, f, c, s),
      λ (e : z -ℤ (d *ℤ floor_function z d) ≡ pos 0).
          le_z_holds z (floor z d *ℤ d) (omega (arith, ints, e, c, s)),
    )

pub multiples_told : (form : Affine) (d : ℤ) (point : List ℤ) → pos 0 <ℤ d → (holds (multiple form d) point ≡ true)
    ↔ (value_of form point -ℤ (d *ℤ floor_function (value_of form point) d) ≡ pos 0)
multiples_told form d point h = is_multiple (value_of form point) d h

-- over 1
pub floor_of_one : (z : ℤ) → floor z (pos 1) ≡ z
floor_of_one z =
    floor_unique z (pos 1) (floor z (pos 1)) z (omega (arith, ints)) (floor_is z (pos 1) (omega (arith, ints)))
    (record { below = omega (arith, ints); above = omega (arith, ints) })

pub ceiling_of_one : (z : ℤ) → ceiling z (pos 1) ≡ z
ceiling_of_one z = let e = floor_of_one (neg_ℤ z) in omega (arith, ints, e)
