-- Arithmetic of 128 bits: exactly the result, or exactly the operation whose result they do not hold.
use Rattle.std.specs.Prelude.{ℤ, ◌+ℤ◌, ◌-ℤ◌, ◌*ℤ◌, if◌then◌else◌, Result, Ok, Err}
use Rattle.whole_numbers.specs.Fits.{fits}
use Rattle.wide_math.specs.declared.Op.{Op}
use Rattle.wide_math.specs.declared.Op.TheVariants.{Add, Sub, Mul}
use Rattle.wide_math.specs.declared.Wide.{Wide}

-- the error that names the operation whose exact result 128 bits do not hold
abbrev pub wide : Op → ℤ → ℤ → Wide
wide op a b = record { op = op; a = a; b = b }

-- the exact result z of `op` at a and b where 128 bits hold it, and else the error that names the operation
unfoldable pub checked : Op → ℤ → ℤ → ℤ → Result ℤ Wide
checked op a b z = if fits z then Ok z else Err (wide op a b)

-- a + b
abbrev pub sum_of : ℤ → ℤ → Result ℤ Wide
sum_of a b = checked Add a b (a +ℤ b)

-- a - b
abbrev pub difference_of : ℤ → ℤ → Result ℤ Wide
difference_of a b = checked Sub a b (a -ℤ b)

-- a b
abbrev pub product_of : ℤ → ℤ → Result ℤ Wide
product_of a b = checked Mul a b (a *ℤ b)

-- the first step's result goes to the second; the first error stays
infixl 10 ◌>>=◌
abbrev pub ◌>>=◌ : {A B : Type 0} → Result A Wide → (A → Result B Wide) → Result B Wide
Ok x >>= f = f x
Err e >>= f = Err e

-- a b - c d: the products, then the difference
unfoldable pub cross_of : ℤ → ℤ → ℤ → ℤ → Result ℤ Wide
cross_of a b c d = product_of a b >>= λ left. product_of c d >>= λ right. difference_of left right

-- a b + c d: the products, then the sum
unfoldable pub cross_sum_of : ℤ → ℤ → ℤ → ℤ → Result ℤ Wide
cross_sum_of a b c d = product_of a b >>= λ left. product_of c d >>= λ right. sum_of left right
