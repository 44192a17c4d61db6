-- Sizes of sums, products, minors and dot products; how many unit vectors there are.
use Rattle.whole_numbers.proofs.Common.{◌≡◌, ℕ, zero, suc, ◌+◌, ◌*◌, ◌≤◌, ℤ, pos, negsuc, ◌+ℤ◌, ◌-ℤ◌, ◌*ℤ◌, List, []}
use Rattle.whole_numbers.proofs.Common.{ap, ◌∷◌, refl, sym, subst, arith, length, unsigned_abs, ints, unsigned_abs-mul}
use Rattle.whole_numbers.proofs.Common.{All-head, All-tail, All-cons, All-nil, All-weaker, dot, multiples, sums}
use Rattle.std.proofs.Math.Nat.{mul-le-mul}
use Rattle.null_space.specs.Echelon.{at}
use Rattle.null_space.proofs.Minors.{minor₂, third, minor₃, minor₄}
use Rattle.null_space.specs.Sizes.{IsWithin, AreWithin}
use Rattle.null_space.specs.Narrowing.{units_from}

pub within_mul : (m k : ℕ) (a b : ℤ) → IsWithin m a → IsWithin k b → IsWithin (m * k) (a *ℤ b)
within_mul m k a b h l = subst (λ (n : ℕ). n ≤ m * k) (sym (unsigned_abs-mul a b)) (mul-le-mul h l)

pub within_add : (m k : ℕ) (a b : ℤ) → IsWithin m a → IsWithin k b → IsWithin (m + k) (a +ℤ b)
within_add m k a b h l = omega (arith, ints)

pub within_sub : (m k : ℕ) (a b : ℤ) → IsWithin m a → IsWithin k b → IsWithin (m + k) (a -ℤ b)
within_sub m k a b h l = omega (arith, ints)

pub within_at : (m : ℕ) (xs : List ℤ) (i : ℕ) → AreWithin m xs → IsWithin m (at xs i)
within_at m [] i all = omega arith
within_at m (x ∷ xs) zero all = All-head (IsWithin m) x xs all
within_at m (x ∷ xs) (suc i) all = within_at m xs i (All-tail (IsWithin m) x xs all)

pub within_factor : (m : ℕ) (t d : ℤ) → (t ≡ pos 0 → ⊥) → IsWithin m (t *ℤ d) → IsWithin m d
within_factor m (pos zero) d some h = absurd (some refl)
within_factor m (pos (suc k)) d some h =
    let e = unsigned_abs-mul (pos (suc k)) d in
    let l : 1 * unsigned_abs d ≤ suc k * unsigned_abs d = mul-le-mul (omega arith) (omega arith) in
    omega (arith, e, l)
within_factor m (negsuc k) d some h =
    let e = unsigned_abs-mul (negsuc k) d in
    let l : 1 * unsigned_abs d ≤ suc k * unsigned_abs d = mul-le-mul (omega arith) (omega arith) in
    omega (arith, e, l)

pub are_within_more : (m k : ℕ) (xs : List ℤ) → m ≤ k → AreWithin m xs → AreWithin k xs
are_within_more m k xs h all = All-weaker (IsWithin m) (IsWithin k) (λ x l. omega arith) xs all

-- each entry of a factor is within what those of a multiple are
pub are_within_factor : (m : ℕ) (t : ℤ) (xs : List ℤ) → (t ≡ pos 0 → ⊥) → AreWithin m (multiples t xs)
    → AreWithin m xs
are_within_factor m t [] some all = All-nil (IsWithin m)
are_within_factor m t (x ∷ xs) some all =
    All-cons (IsWithin m) x xs
    (within_factor m t x some (All-head (IsWithin m) (t *ℤ x) (multiples t xs) all))
    (are_within_factor m t xs some (All-tail (IsWithin m) (t *ℤ x) (multiples t xs) all))

pub are_within_multiples : (m k : ℕ) (t : ℤ) (xs : List ℤ) → IsWithin k t → AreWithin m xs
    → AreWithin (k * m) (multiples t xs)
are_within_multiples m k t [] h all = All-nil (IsWithin (k * m))
are_within_multiples m k t (x ∷ xs) h all =
    All-cons (IsWithin (k * m)) (t *ℤ x) (multiples t xs)
    (within_mul k m t x h (All-head (IsWithin m) x xs all))
    (are_within_multiples m k t xs h (All-tail (IsWithin m) x xs all))

pub are_within_sums : (m k : ℕ) (xs ys : List ℤ) → AreWithin m xs → AreWithin k ys
    → AreWithin (m + k) (sums xs ys)
are_within_sums m k [] ys all more = are_within_more k (m + k) ys (omega arith) more
are_within_sums m k (x ∷ xs) [] all more = are_within_more m (m + k) (x ∷ xs) (omega arith) all
are_within_sums m k (x ∷ xs) (y ∷ ys) all more =
    All-cons (IsWithin (m + k)) (x +ℤ y) (sums xs ys)
    (within_add m k x y (All-head (IsWithin m) x xs all) (All-head (IsWithin k) y ys more))
    (are_within_sums m k xs ys (All-tail (IsWithin m) x xs all) (All-tail (IsWithin k) y ys more))

pub within_dot : (m k : ℕ) (xs ys : List ℤ) → AreWithin m xs → AreWithin k ys
    → IsWithin (length xs * (m * k)) (dot xs ys)
within_dot m k [] ys all more = omega arith
within_dot m k (x ∷ xs) [] all more = omega arith
within_dot m k (x ∷ xs) (y ∷ ys) all more =
    let a = within_mul m k x y (All-head (IsWithin m) x xs all) (All-head (IsWithin k) y ys more) in
    let b = within_dot m k xs ys (All-tail (IsWithin m) x xs all) (All-tail (IsWithin k) y ys more) in
    let c = within_add (m * k) (length xs * (m * k)) (x *ℤ y) (dot xs ys) a b in
    omega (arith, c)

-- what minors of rows within m are within
unfoldable pub two : ℕ → ℕ → ℕ
two m k = m * k + m * k

unfoldable pub three : ℕ → ℕ → ℕ
three m k = (two m m * k + two m m * k) + two m m * k

unfoldable pub four : ℕ → ℕ → ℕ
four m k = ((three m m * k + three m m * k) + three m m * k) + three m m * k

pub minor₂_within : (m k : ℕ) (r : List ℤ) (a j : ℕ) (w : List ℤ) → AreWithin m r → AreWithin k w
    → IsWithin (two m k) (minor₂ r a j w)
unfolding two
minor₂_within m k r a j w h l =
    within_sub (m * k) (m * k) (at r a *ℤ at w j) (at r j *ℤ at w a)
    (within_mul m k (at r a) (at w j) (within_at m r a h) (within_at k w j l))
    (within_mul m k (at r j) (at w a) (within_at m r j h) (within_at k w a l))

third_within : (m k : ℕ) (q s t x y z : ℤ) → IsWithin m q → IsWithin m s → IsWithin m t → IsWithin k x
    → IsWithin k y → IsWithin k z
    → IsWithin ((m * k + m * k) + m * k) (third q s t x y z)
third_within m k q s t x y z a b c d e f =
    within_add (m * k + m * k) (m * k) ((q *ℤ z) -ℤ (s *ℤ y)) (t *ℤ x)
    (within_sub (m * k) (m * k) (q *ℤ z) (s *ℤ y) (within_mul m k q z a f) (within_mul m k s y b e))
    (within_mul m k t x c d)

pub minor₃_within : (m k : ℕ) (r c : List ℤ) (a b j : ℕ) (w : List ℤ) → AreWithin m r → AreWithin m c
    → AreWithin k w
    → IsWithin (three m k) (minor₃ r c a b j w)
unfolding three
minor₃_within m k r c a b j w h i l =
    third_within (two m m) k (minor₂ r a b c) (minor₂ r a j c) (minor₂ r b j c) (at w a) (at w b) (at w j)
    (minor₂_within m m r a b c h i) (minor₂_within m m r a j c h i) (minor₂_within m m r b j c h i)
    (within_at k w a l) (within_at k w b l) (within_at k w j l)

pub minor₄_within : (m k : ℕ) (r c d : List ℤ) (a b e j : ℕ) (w : List ℤ) → AreWithin m r → AreWithin m c
    → AreWithin m d → AreWithin k w
    → IsWithin (four m k) (minor₄ r c d a b e j w)
unfolding four
minor₄_within m k r c d a b e j w h i o l =
    let n = three m m in
    let A = minor₃ r c a b e d *ℤ at w j in
    let B = minor₃ r c a b j d *ℤ at w e in
    let C = minor₃ r c a e j d *ℤ at w b in
    let D = minor₃ r c b e j d *ℤ at w a in
    within_sub ((n * k + n * k) + n * k) (n * k) ((A -ℤ B) +ℤ C) D (
    within_add (n * k + n * k) (n * k) (A -ℤ B) C (
    within_sub (n * k) (n * k) A B
    (within_mul n k (minor₃ r c a b e d) (at w j) (minor₃_within m m r c a b e d h i o) (within_at k w j l))
    (within_mul n k (minor₃ r c a b j d) (at w e) (minor₃_within m m r c a b j d h i o) (within_at k w e l))
    ) (within_mul n k (minor₃ r c a e j d) (at w b) (minor₃_within m m r c a e j d h i o) (within_at k w b l))
    ) (within_mul n k (minor₃ r c b e j d) (at w a) (minor₃_within m m r c b e j d h i o) (within_at k w a l))

-- how many unit vectors there are
pub units_length : (n i k : ℕ) → length (units_from n i k) ≡ k
units_length n i zero = refl
units_length n i (suc k) = ap suc (units_length n (i + 1) k)
