-- Greatest common divisors of lists: the content divides each entry, each common divisor divides it, and a positive
-- factor comes out of it.
use Rattle.std.proofs.Common.{◌≡◌, ℕ, zero, suc, ◌<◌, ◌≤◌, ◌*◌, ◌+◌, ◌/◌, ◌%◌, ℤ, pos, unsigned_abs, List, [], ◌∷◌}
use Rattle.std.proofs.Common.{refl, sym, ◌∙◌, ap, subst, All, arith}
use Rattle.std.proofs.lemmas.Int.{unsigned_abs-mul}
use Rattle.std.proofs.lemmas.Nat.Gcd.{same_from_IsGcd, IsGcd-from_zero, IsGcd-from_mod, dvd_refl}
use Rattle.std.proofs.Math.Nat.{mod-lt, div-add-mod, dvd-mul_right, mul-add-mod_self_left, mul-add, mul_assoc}
use Rattle.std.proofs.Math.Nat.{mul-lt-mul_of_pos_left, mod-eq_of_lt}
use Rattle.std.proofs.lemmas.List.Elements.{All-cons, All-nil, All-head, All-tail}
use Prim.Native.Nat.{◌∣◌}
use Rattle.std.specs.Int.{IsGcd}
use Rattle.whole_numbers.specs.Lists.{multiples}
use Rattle.whole_numbers.specs.Divisors.{Divides}
use Rattle.whole_numbers.specs.Content.{gcd_steps, gcd_of, content_from, content}
use Rattle.whole_numbers.proofs.Divisors.{sizes_divide, divides_sizes, divides_trans}

-- Euclid's algorithm gives the greatest common divisor
gcd_steps_is : (steps m n : ℕ) → n ≤ steps → IsGcd m n (gcd_steps steps m n)
gcd_steps_is zero m zero h = IsGcd-from_zero m 0 refl
gcd_steps_is zero m (suc n) h = absurd (omega arith)
gcd_steps_is (suc steps) m zero h = IsGcd-from_zero m 0 refl
gcd_steps_is (suc steps) m (suc n) h =
    let rest : m % suc n < suc n = mod-lt m (omega arith) in
    IsGcd-from_mod m (suc n) (gcd_steps steps (suc n) (m % suc n))
    (gcd_steps_is steps (suc n) (m % suc n) (omega arith))

pub gcd_of_is : (m n : ℕ) → IsGcd m n (gcd_of m n)
unfolding gcd_of
gcd_of_is m n = gcd_steps_is n m n (omega arith)

-- the greatest common divisor by its property
pub gcd_of_same : (m n g : ℕ) → IsGcd m n g → g ≡ gcd_of m n
gcd_of_same m n g h = same_from_IsGcd m n g (gcd_of m n) h (gcd_of_is m n)

-- with 0 and with 1
pub gcd_of_nothing : (n : ℕ) → n ≡ gcd_of 0 n
gcd_of_nothing n = gcd_of_same 0 n n (
  subst (λ (m : ℕ). n ∣ m) (omega arith) (dvd-mul_right n 0),
  dvd_refl n,
  λ d h k. k,
)

gcd_of_one : (n : ℕ) → 1 ≡ gcd_of 1 n
gcd_of_one n = gcd_of_same 1 n 1 (
  dvd_refl 1,
  subst (λ (m : ℕ). 1 ∣ m) (omega arith) (dvd-mul_right 1 n),
  λ d h k. h,
)

-- once it is 1 it stays
pub content_from_one : (xs : List ℤ) → content_from 1 xs ≡ 1
content_from_one [] = refl
content_from_one (x ∷ xs) =
    ap (λ (m : ℕ). content_from m xs) (sym (gcd_of_one (unsigned_abs x))) ∙ content_from_one xs

-- the content divides the start and each entry
pub content_from_divides : (g : ℕ) (xs : List ℤ) → Divides (pos (content_from g xs)) (pos g)
    × All (Divides (pos (content_from g xs))) xs
content_from_divides g [] = (sizes_divide (pos g) (pos g) (dvd_refl g), All-nil (Divides (pos g)))
content_from_divides g (x ∷ xs) =
    let h = gcd_of g (unsigned_abs x) in
    let is = gcd_of_is g (unsigned_abs x) in
    let c = pos (content_from h xs) in
    let rest = content_from_divides h xs in (
      divides_trans c (pos h) (pos g) rest.0 (sizes_divide (pos h) (pos g) is.0),
      All-cons (Divides c) x xs (divides_trans c (pos h) x rest.0 (sizes_divide (pos h) x is.1)) rest.1,
    )

pub content_divides : (xs : List ℤ) → All (Divides (pos (content xs))) xs
content_divides xs = (content_from_divides 0 xs).1

-- what divides the start and each entry divides the content
content_from_greatest : (d : ℤ) (g : ℕ) (xs : List ℤ) → Divides d (pos g) → All (Divides d) xs
    → Divides d (pos (content_from g xs))
content_from_greatest d g [] h all = h
content_from_greatest d g (x ∷ xs) h all =
    let n = unsigned_abs x in
    let one = All-head (Divides d) x xs all in
    let is = gcd_of_is g n in
    let both = is.2 (unsigned_abs d) (divides_sizes d (pos g) h) (divides_sizes d x one) in
    content_from_greatest d (gcd_of g n) xs (sizes_divide d (pos (gcd_of g n)) both) (All-tail (Divides d) x xs all)

pub content_greatest : (d : ℤ) (xs : List ℤ) → All (Divides d) xs → Divides d (pos (content xs))
content_greatest d xs all =
    content_from_greatest d 0 xs
    (sizes_divide d (pos 0) (subst (λ (m : ℕ). unsigned_abs d ∣ m) (omega arith)
    (dvd-mul_right (unsigned_abs d) 0))) all

-- a common factor comes out of a remainder
mod_of_multiples : (k m n : ℕ) → 0 < n → (suc k * m) % (suc k * n) ≡ suc k * (m % n)
mod_of_multiples k m n h =
    let q = m / n in
    let r = m % n in
    let parts : suc k * m ≡ (suc k * n) * q + suc k * r = omega
    (arith, ap (λ (z : ℕ). suc k * z) (sym (div-add-mod m n)), mul-add (suc k) (n * q) r, mul_assoc (suc k) n q)
    in
    let small : suc k * r < suc k * n = mul-lt-mul_of_pos_left (mod-lt m h) (omega arith) in
    rw parts (mul-add-mod_self_left (suc k * n) q (suc k * r) ∙ mod-eq_of_lt small)

gcd_steps_of_multiples : (steps k m n : ℕ) → n ≤ steps → IsGcd (suc k * m) (suc k * n) (suc k * gcd_steps steps m n)
gcd_steps_of_multiples zero k m zero h = IsGcd-from_zero (suc k * m) (suc k * 0) (omega arith)
gcd_steps_of_multiples zero k m (suc n) h = absurd (omega arith)
gcd_steps_of_multiples (suc steps) k m zero h = IsGcd-from_zero (suc k * m) (suc k * 0) (omega arith)
gcd_steps_of_multiples (suc steps) k m (suc n) h =
    let rest : m % suc n < suc n = mod-lt m (omega arith) in
    let e = mod_of_multiples k m (suc n) (omega arith) in
    let more = gcd_steps_of_multiples steps k (suc n) (m % suc n) (omega arith) in
    IsGcd-from_mod (suc k * m) (suc k * suc n) (suc k * gcd_steps steps (suc n) (m % suc n)) (rw e more)

-- a common factor comes out of the greatest common divisor
gcd_of_multiples : (k m n : ℕ) → gcd_of (suc k * m) (suc k * n) ≡ suc k * gcd_of m n
unfolding gcd_of
gcd_of_multiples k m n =
    same_from_IsGcd (suc k * m) (suc k * n) (gcd_of (suc k * m) (suc k * n)) (suc k * gcd_of m n)
    (gcd_of_is (suc k * m) (suc k * n)) (gcd_steps_of_multiples n k m n (omega arith))

content_from_multiples : (k g : ℕ) (xs : List ℤ) → content_from (suc k * g) (multiples (pos (suc k)) xs)
    ≡ suc k * content_from g xs
content_from_multiples k g [] = refl
content_from_multiples k g (x ∷ xs) =
    ap (λ (n : ℕ). content_from (gcd_of (suc k * g) n) (multiples (pos (suc k)) xs))
    (unsigned_abs-mul (pos (suc k)) x)
    ∙ ap (λ (n : ℕ). content_from n (multiples (pos (suc k)) xs)) (gcd_of_multiples k g (unsigned_abs x))
    ∙ content_from_multiples k (gcd_of g (unsigned_abs x)) xs

pub content_of_multiples : (k : ℕ) (xs : List ℤ) → content (multiples (pos (suc k)) xs) ≡ suc k * content xs
content_of_multiples k xs =
    let z : 0 ≡ suc k * 0 = omega arith in
    ap (λ (n : ℕ). content_from n (multiples (pos (suc k)) xs)) z ∙ content_from_multiples k 0 xs

pub ruleset content_laws = (content_divides, content_greatest, content_of_multiples)
