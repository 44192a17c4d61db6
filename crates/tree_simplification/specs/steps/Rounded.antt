-- Bounds and tests without common factors: floor((g a + c) / (g d)) = floor((a + floor(c / g)) / d).
use Rattle.std.specs.Prelude.{ℕ, zero, suc, ℤ, pos, negsuc, Bool, true, false, List, unsigned_abs}
use Rattle.whole_numbers.specs.Affine.{Affine, form_of}
use Rattle.whole_numbers.specs.Content.{content_from}
use Rattle.whole_numbers.specs.Floor.{ceiling, floor, floors}
use Rattle.loop_tree.specs.Tree.{Bound, Test, at_least, equal, multiple}

-- a quotient, rounded up (true) or down
abbrev pub quotient : Bool → ℤ → ℤ → ℤ
quotient true a d = ceiling a d
quotient false a d = floor a d

-- a form over a number that divides its coefficients, from 2 on, its constant rounded
abbrev pub form_by : ℕ → Bool → Affine → Affine
form_by zero up f = f
form_by (suc zero) up f = f
form_by (suc (suc n)) up f =
    form_of (floors (pos (suc (suc n))) f.coefficients) (quotient up f.constant (pos (suc (suc n))))

-- a divisor over one that divides it
abbrev pub divisor_by : ℕ → ℤ → ℤ
divisor_by zero d = d
divisor_by (suc zero) d = d
divisor_by (suc (suc n)) d = floor d (pos (suc (suc n)))

-- the greatest common divisor of coefficients and a positive divisor
abbrev pub factor_of : ℤ → List ℤ → ℕ
factor_of (pos zero) xs = 1
factor_of (pos (suc d)) xs = content_from (suc d) xs
factor_of (negsuc d) xs = 1

-- a lower bound (true) or an upper one without common factors
unfoldable pub rounded : Bool → Bound → Bound
rounded up b =
    record {
      form = form_by (factor_of b.divisor b.form.coefficients) up b.form;
      divisor = divisor_by (factor_of b.divisor b.form.coefficients) b.divisor;
    }

-- a test without common factors
unfoldable pub rounded_test : Test → Test
rounded_test (at_least f) = at_least (form_by (content_from 0 f.coefficients) false f)
rounded_test (equal f) = equal (form_by (content_from (unsigned_abs f.constant) f.coefficients) false f)
rounded_test (multiple f d) = multiple f d
