-- Sums of products modulo 2^64.
use Rattle.std.proofs.Common.{
  ◌≡◌,
  ℕ,
  zero,
  suc,
  ◌+◌,
  ◌<◌,
  ◌≤◌,
  List,
  [],
  ◌∷◌,
  length,
  drop,
  get_or,
  ap,
  ◌∙◌,
  arith,
  rules,
  ◌*◌,
  ◌-◌,
  ◌%◌,
  ◌^◌,
  add-one,
  drop-cons,
  refl,
  min,
}
use Rattle.whole_numbers.proofs.Common.{ℤ, pos, negsuc, ◌+ℤ◌, ◌*ℤ◌, FitsSigned, w64, cast_signed, cast_unsigned, ints}
use Rattle.whole_numbers.proofs.Common.{int_wrap-add_left, int_wrap-add_right, to_z-of_z, dot, dot-nil}
use Rattle.scop_syntax.specs.Values.{wrapped}
use Rattle.std.specs.Int.{int_wrap}
use Rattle.std.proofs.lemmas.Int.{wrapping_add-bits, wrapping_mul_is}
use Rattle.std.proofs.lemmas.Int.{of_z-to_z}

-- one more product, wrapped on the way
pub wrap_step : (v p rest : ℤ) → int_wrap w64 (int_wrap w64 (v +ℤ p) +ℤ rest) ≡ int_wrap w64 (v +ℤ (p +ℤ rest))
wrap_step v p rest =
    let last : (v +ℤ p) +ℤ rest ≡ v +ℤ (p +ℤ rest) = omega (arith, ints) in
    int_wrap-add_left w64 (v +ℤ p) rest ∙ ap (int_wrap w64) last

-- the products from place i on begin with the one at i
pub dot_step : (xs ys : List ℤ) (i : ℕ) → i < length xs → i < length ys → dot (drop i xs) (drop i ys)
    ≡ (get_or xs i (pos 0) *ℤ get_or ys i (pos 0)) +ℤ dot (drop (i + 1) xs) (drop (i + 1) ys)
dot_step xs ys i h k = rw (add-one, drop-cons xs i (pos 0), drop-cons ys i (pos 0)) refl

-- nothing is left past the end of the shorter list
pub dot_end : (xs ys : List ℤ) (i : ℕ) → min (length xs) (length ys) ≤ i → dot (drop i xs) (drop i ys) ≡ pos 0
dot_end [] ys zero e = refl
dot_end [] ys (suc i) e = refl
dot_end (x ∷ xs) [] zero e = refl
dot_end (x ∷ xs) [] (suc i) e = dot-nil (drop i xs)
dot_end (x ∷ xs) (y ∷ ys) zero e = absurd (omega arith)
dot_end (x ∷ xs) (y ∷ ys) (suc i) e = dot_end xs ys i (omega arith)

-- what the code's wrapping sum of a wrapping product gives
pub product_added : (v c x : ℤ) → FitsSigned w64 v → FitsSigned w64 c → FitsSigned w64 x
    → cast_signed w64 ((cast_unsigned w64 v + cast_unsigned w64 c * cast_unsigned w64 x % 2 ^ 64) % 2 ^ 64)
    ≡ int_wrap w64 (v +ℤ (c *ℤ x))
product_added v c x fv fc fx =
    let n = cast_unsigned w64 c * cast_unsigned w64 x % 2 ^ 64 in
    let small : n < 2 ^ 64 = omega arith in
    let first : cast_unsigned w64 v < 2 ^ 64 = search rules in
    let product : cast_signed w64 n ≡ int_wrap w64 (c *ℤ x) = wrapping_mul_is w64 c x fc fx in
    wrapping_add-bits w64 (cast_unsigned w64 v) n first small
    ∙ (ap (λ (z : ℤ). int_wrap w64 (z +ℤ cast_signed w64 n)) (to_z-of_z w64 v fv)
    ∙ (ap (λ (z : ℤ). int_wrap w64 (v +ℤ z)) product ∙ int_wrap-add_right w64 v (c *ℤ x)))

-- an invariant of the sum so far
pub value_step : (v rest c x whole : ℤ) → int_wrap w64 (v +ℤ ((c *ℤ x) +ℤ rest)) ≡ whole
    → int_wrap w64 (int_wrap w64 (v +ℤ (c *ℤ x)) +ℤ rest) ≡ whole
value_step v rest c x whole e = wrap_step v (c *ℤ x) rest ∙ e

-- the bits of a wrapped number
pub wrapped_is : (z : ℤ) → cast_unsigned w64 (int_wrap w64 z) ≡ wrapped z
unfolding int_wrap
wrapped_is (pos n) = of_z-to_z w64 (n % 2 ^ 64) (omega arith)
wrapped_is (negsuc n) = of_z-to_z w64 (2 ^ 64 - 1 - n % 2 ^ 64) (omega arith)
