-- How large the values of forms and the iterators of instances get; numbers of a list up to a bound (`at_most_at`,
-- `at_most_more`).
use Rattle.whole_numbers.proofs.Common.{◌≡◌, ℕ, zero, suc, ◌+◌, ◌*◌, ◌^◌, ◌<◌, ◌≤◌, ℤ, pos, List, [], ◌∷◌, ◌++◌, length}
use Rattle.whole_numbers.proofs.Common.{inl, inr, ap, subst, sym, ◌∙◌, arith, mul-le-mul, mul-add, length-append}
use Rattle.whole_numbers.proofs.Common.{get_or, negsuc, ◌+ℤ◌, ◌-ℤ◌, ◌*ℤ◌, ◌≤ℤ◌, neg_ℤ, unsigned_abs, All, ◌<ℤ◌}
use Rattle.whole_numbers.proofs.Common.{FitsSigned, w64, ints, unsigned_abs-mul, All-head, All-tail, All-nil, All-cons}
use Rattle.whole_numbers.proofs.Common.{dot, zeros, NotNegative, Affine, value_of, mul_neg_left, mul_one_left}
use Rattle.whole_numbers.proofs.Common.{mul_one_right, mul_zero_right, mul_distrib_left, mul_le, mul_not_negative}
use Rattle.whole_numbers.proofs.Common.{abs_low, abs_high, abs_at_most, abs_sum, not_negative_all}
use Rattle.scop_syntax.specs.Tree.{Head, Program}
use Rattle.scop_syntax.specs.Walk.{turn_point, condition_at}
use Rattle.scop_syntax.specs.Kernel.{own, AreAtMost, IsForm, IsAffine, IsHead, AreScopes}
use Rattle.scop_syntax.specs.Statements.{Scope, round, under, loops_in, point_of, Runs}
use Rattle.scop_syntax.specs.Limits.{AreInRange, HasParameters, IsInRange, most_parameter}
use Rattle.scop_syntax.proofs.Falls.{dot_last}

-- the sum of the absolute values
abbrev pub size : List ℤ → ℕ
size [] = 0
size (x ∷ xs) = unsigned_abs x + size xs

-- a bound of the size of a point within d more loops
abbrev pub grown : ℕ → ℕ → ℕ
grown zero s = s
grown (suc d) s = grown d (17 * s + 2 ^ 21)

-- an entry of a list within k; greater bounds; zeros
pub at_most_at : (k : ℕ) (xs : List ℤ) (i : ℕ) → AreAtMost k xs → unsigned_abs (get_or xs i (pos 0)) ≤ k
at_most_at k [] i h = omega arith
at_most_at k (x ∷ xs) zero h = h.0
at_most_at k (x ∷ xs) (suc i) h = at_most_at k xs i h.1

pub at_most_more : (k l : ℕ) (xs : List ℤ) → k ≤ l → AreAtMost k xs → AreAtMost l xs
at_most_more k l [] m h = tt
at_most_more k l (x ∷ xs) m h = let small = h.0 in (omega arith, at_most_more k l xs m h.1)

pub at_most_zeros : (k n : ℕ) → AreAtMost k (zeros n)
at_most_zeros k zero = tt
at_most_zeros k (suc n) = (omega arith, at_most_zeros k n)

-- a dot product is at most the greatest coefficient times the size
pub dot_size : (k : ℕ) (cs xs : List ℤ) → AreAtMost k cs → unsigned_abs (dot cs xs) ≤ k * size xs
dot_size k [] xs h = omega arith
dot_size k (c ∷ cs) [] h = omega arith
dot_size k (c ∷ cs) (x ∷ xs) h =
    let a = abs_sum (c *ℤ x) (dot cs xs) in
    let m = unsigned_abs-mul c x in
    let same : unsigned_abs x ≤ unsigned_abs x = omega arith in
    let l : unsigned_abs c * unsigned_abs x ≤ k * unsigned_abs x = mul-le-mul h.0 same in
    let r = dot_size k cs xs h.1 in
    let d = mul-add k (unsigned_abs x) (size xs) in
    omega arith

pub value_size : (n k m : ℕ) (f : Affine) (xs : List ℤ) → IsForm n k m f
    → unsigned_abs (value_of f xs) ≤ k * size xs + m
value_size n k m f xs is =
    let a = abs_sum (dot f.coefficients xs) f.constant in
    let d = dot_size k f.coefficients xs is.coefficients in
    let c = is.constant in
    omega arith

pub size-joined : (xs ys : List ℤ) → size (xs ++ ys) ≡ size xs + size ys
size-joined [] ys = omega arith
size-joined (x ∷ xs) ys = let r = size-joined xs ys in omega arith

pub size-append : (xs : List ℤ) (y : ℤ) → size (xs ++ y ∷ []) ≡ size xs + unsigned_abs y
size-append [] y = omega arith
size-append (x ∷ xs) y = let e = size-append xs y in omega arith

-- the iterator at a turn at which the condition holds
pub iterator_size : (head : Head) (point : List ℤ) (x : ℤ) → IsHead (length point) head → pos 0 ≤ℤ x
    → pos 0 ≤ℤ condition_at head point x
    → unsigned_abs (value_of head.first point +ℤ (head.stride *ℤ x)) ≤ 16 * size point + (2 ^ 20 + 1)
iterator_size head point x small up holds =
    let i = value_of head.first point +ℤ (head.stride *ℤ x) in
    let c = own (length point) head in
    let b = 16 * size point + (2 ^ 20 + 1) in
    let f = value_size (length point) 16 (2 ^ 20) head.first point small.first in
    let fl = abs_low (value_of head.first point) in
    let fh = abs_high (value_of head.first point) in
    let rest = value_of head.condition (point ++ pos 0 ∷ []) in
    let g = value_size (length point + 1) 16 (2 ^ 20 + 1) head.condition (point ++ pos 0 ∷ []) small.condition in
    let gl = abs_low rest in
    let gh = abs_high rest in
    let same : size (point ++ pos 0 ∷ []) ≡ size point = size-append point (pos 0) ∙ omega arith in
    let l = dot_last head.condition.coefficients point (pos 0) i in
    let back : i -ℤ pos 0 ≡ i = omega (arith, ints) in
    let p = ap (λ z. c *ℤ z) back in
    elim small.direction [
      | inl d ↦
          let own_is = ap (λ z. z *ℤ i) d.0 in
          let minus = mul_neg_left (pos 1) i in
          let one = mul_one_left i in
          let s = mul_not_negative head.stride x (let r = d.1 in omega (arith, ints)) up in
          abs_at_most i b (omega (arith, ints)) (omega (arith, ints))
      | inr d ↦
          let own_is = ap (λ z. z *ℤ i) d.0 in
          let one = mul_one_left i in
          let s = mul_not_negative (neg_ℤ head.stride) x (let r = d.1 in omega (arith, ints)) up in
          let n = mul_neg_left head.stride x in
          abs_at_most i b (omega (arith, ints)) (omega (arith, ints))
    ]

-- the iterator at a turn to which the loop comes, the one that ends it included
pub reached_size : (head : Head) (point : List ℤ) (k : ℕ) → IsHead (length point) head
    → ((j : ℕ) → j < k → pos 0 ≤ℤ condition_at head point (pos j))
    → unsigned_abs (value_of head.first point +ℤ (head.stride *ℤ pos k)) ≤ 16 * size point + (2 ^ 20 + 17)
reached_size head point zero small before =
    let z = mul_zero_right head.stride in
    let e : value_of head.first point +ℤ (head.stride *ℤ pos 0) ≡ value_of head.first point = omega (arith, ints) in
    let f = value_size (length point) 16 (2 ^ 20) head.first point small.first in
    rw e (omega arith)
reached_size head point (suc k) small before =
    let b = iterator_size head point (pos k) small (omega (arith, ints)) (before k (omega arith)) in
    let d = mul_distrib_left (pos k) (pos 1) head.stride in
    let o = mul_one_right head.stride in
    let e : pos (suc k) ≡ pos k +ℤ pos 1 = omega (arith, ints) in
    let f = ap (λ z. head.stride *ℤ z) e in
    let g : value_of head.first point +ℤ (head.stride *ℤ pos (suc k)) ≡
    (value_of head.first point +ℤ (head.stride *ℤ pos k)) +ℤ head.stride = omega (arith, ints) in
    let a = abs_sum (value_of head.first point +ℤ (head.stride *ℤ pos k)) head.stride in
    let s = small.stride in
    rw g (omega arith)

-- a turn at which the condition holds
pub turn_size : (head : Head) (point : List ℤ) (x : ℤ) → IsHead (length point) head → pos 0 ≤ℤ x
    → pos 0 ≤ℤ condition_at head point x
    → unsigned_abs x ≤ 2 * (16 * size point + (2 ^ 20 + 1))
turn_size head point x small up holds =
    let i = value_of head.first point +ℤ (head.stride *ℤ x) in
    let b = 16 * size point + (2 ^ 20 + 1) in
    let n = iterator_size head point x small up holds in
    let il = abs_low i in
    let ih = abs_high i in
    let f = value_size (length point) 16 (2 ^ 20) head.first point small.first in
    let fl = abs_low (value_of head.first point) in
    let fh = abs_high (value_of head.first point) in
    elim small.direction [
      | inl d ↦
          let m = mul_le (pos 1) head.stride x d.1 up in
          let o = mul_one_left x in
          abs_at_most x (2 * b) (omega (arith, ints)) (omega (arith, ints))
      | inr d ↦
          let m = mul_le (pos 1) (neg_ℤ head.stride) x (let r = d.1 in omega (arith, ints)) up in
          let o = mul_one_left x in
          let q = mul_neg_left head.stride x in
          abs_at_most x (2 * b) (omega (arith, ints)) (omega (arith, ints))
    ]

pub grown_more : (d s t : ℕ) → s ≤ t → grown d s ≤ grown d t
grown_more zero s t h = h
grown_more (suc d) s t h = grown_more d (17 * s + 2 ^ 21) (17 * t + 2 ^ 21) (omega arith)

-- the point of an instance
pub point_size : (scopes : List Scope) (point xs : List ℤ) → AreScopes (length point) scopes → Runs scopes point xs
    → size (point_of scopes point xs) ≤ grown (loops_in scopes) (size point)
point_size [] point xs small runs = omega arith
point_size (under tests ∷ scopes) point xs small runs = point_size scopes point xs small.1 runs.1
point_size (round head ∷ scopes) point [] small runs = absurd runs
point_size (round head ∷ scopes) point (x ∷ xs) small runs =
    let i = value_of head.first point +ℤ (head.stride *ℤ x) in
    let l = length-append point (i ∷ []) in
    let inner = point_size scopes (turn_point head point x) xs
    (subst (λ n. AreScopes n scopes) (sym l) small.1) runs.2 in
    let b = iterator_size head point x small.0 runs.0 runs.1 in
    let s = size-append point i in
    let more = grown_more (loops_in scopes) (size (turn_point head point x)) (17 * size point + 2 ^ 21) (omega arith) in
    omega arith

pub grown_up : (d s : ℕ) → s ≤ grown d s
grown_up zero s = omega arith
grown_up (suc d) s = let r = grown_up d (17 * s + 2 ^ 21) in omega arith

pub five : (d : ℕ) → d ≤ 5 → grown d (2 ^ 18) ≤ 2 ^ 40
five zero h = omega arith
five (suc zero) h = omega arith
five (suc (suc zero)) h = omega arith
five (suc (suc (suc zero))) h = omega arith
five (suc (suc (suc (suc zero)))) h = omega arith
five (suc (suc (suc (suc (suc zero))))) h = omega arith
five (suc (suc (suc (suc (suc (suc d)))))) h = absurd (omega arith)

-- with up to five loops, and up to four parameters within 2^16
pub point_within : (scopes : List Scope) (point xs : List ℤ) → AreScopes (length point) scopes → Runs scopes point xs
    → loops_in scopes ≤ 5 → size point ≤ 2 ^ 18 → size (point_of scopes point xs) ≤ 2 ^ 40
point_within scopes point xs small runs few params =
    let b = point_size scopes point xs small runs in
    let m = grown_more (loops_in scopes) (size point) (2 ^ 18) params in
    let g = five (loops_in scopes) few in
    omega arith

pub turns_within : (scopes : List Scope) (point xs : List ℤ) → AreScopes (length point) scopes → Runs scopes point xs
    → loops_in scopes ≤ 5 → size point ≤ 2 ^ 18 → AreAtMost (2 ^ 45) xs
turns_within scopes point xs small runs few params =
    turns_below scopes point xs small runs
    (let m = grown_more (loops_in scopes) (size point) (2 ^ 18) params in let g = five (loops_in scopes) few in
    omega arith)
  where
    turns_below : (scopes : List Scope) (point xs : List ℤ) → AreScopes (length point) scopes → Runs scopes point xs
        → grown (loops_in scopes) (size point) ≤ 2 ^ 40 → AreAtMost (2 ^ 45) xs
    turns_below [] point [] small runs b = tt
    turns_below [] point (x ∷ xs) small runs b = absurd runs
    turns_below (under tests ∷ scopes) point xs small runs b = turns_below scopes point xs small.1 runs.1 b
    turns_below (round head ∷ scopes) point [] small runs b = absurd runs
    turns_below (round head ∷ scopes) point (x ∷ xs) small runs b =
        let i = value_of head.first point +ℤ (head.stride *ℤ x) in
        let l = length-append point (i ∷ []) in
        let t = turn_size head point x small.0 runs.0 runs.1 in
        let n = iterator_size head point x small.0 runs.0 runs.1 in
        let s = size-append point i in
        let up = grown_up (loops_in scopes) (17 * size point + 2 ^ 21) in
        let more = grown_more (loops_in scopes) (size (turn_point head point x)) (17 * size point + 2 ^ 21)
        (omega arith) in (
          omega arith,
          turns_below scopes (turn_point head point x) xs
              (subst (λ n. AreScopes n scopes) (sym l) small.1) runs.2 (omega arith),
        )

pub value_within : (n : ℕ) (f : Affine) (scopes : List Scope) (point xs : List ℤ) → IsAffine n f
    → AreScopes (length point) scopes → Runs scopes point xs → loops_in scopes ≤ 5 → size point ≤ 2 ^ 18
    → unsigned_abs (value_of f (point_of scopes point xs)) ≤ 2 ^ 45
value_within n f scopes point xs small heads runs few params =
    let p = point_within scopes point xs heads runs few params in
    let v = value_size n 16 (2 ^ 20) f (point_of scopes point xs) small in
    omega arith

-- parameters in range: their sizes, and their bounds
pub parameter_size : (x : ℤ) → IsInRange x → unsigned_abs x ≤ most_parameter
parameter_size (pos n) h = let high = h.1 in omega (arith, ints)
parameter_size (negsuc n) h = let low = h.0 in absurd (omega (arith, ints))

pub size_params : (xs : List ℤ) → AreInRange xs → size xs ≤ length xs * most_parameter
size_params [] all = omega arith
size_params (x ∷ xs) all =
    let a = parameter_size x (All-head IsInRange x xs all) in
    let r = size_params xs (All-tail IsInRange x xs all) in
    omega arith

pub range_low : (xs : List ℤ) → AreInRange xs → All (λ z. pos 0 ≤ℤ z) xs
range_low xs all = λ k d inside. (all k d inside).0

pub range_high : (xs : List ℤ) → AreInRange xs → All (λ z. z ≤ℤ pos most_parameter) xs
range_high xs all = λ k d inside. (all k d inside).1

pub params_not_negative : (xs : List ℤ) → AreInRange xs → NotNegative xs
params_not_negative xs all = (not_negative_all xs).1 (range_low xs all)

pub params_size : (program : Program) (params : List ℤ) → HasParameters program params → size params ≤ 2 ^ 18
params_size program params w =
    let s = size_params params w.parameters in
    let few = w.kernel.few_parameters in
    let count = w.count in
    omega arith

-- turns within 2^46 have 64 bits
pub turns_fit : (xs : List ℤ) → All (λ x. (pos 0 ≤ℤ x) × (x <ℤ pos (2 ^ 46))) xs → All (FitsSigned w64) xs
turns_fit [] all = All-nil (FitsSigned w64)
turns_fit (x ∷ xs) all =
    let P : ℤ → Type 0 = λ x. (pos 0 ≤ℤ x) × (x <ℤ pos (2 ^ 46)) in
    let h = All-head P x xs all in
    All-cons (FitsSigned w64) x xs (turn_fits x h.0 h.1) (turns_fit xs (All-tail P x xs all))
  where
    turn_fits : (x : ℤ) → pos 0 ≤ℤ x → x <ℤ pos (2 ^ 46) → FitsSigned w64 x
    turn_fits (pos n) low high = omega (arith, ints)
    turn_fits (negsuc n) low high = absurd (omega (arith, ints))
