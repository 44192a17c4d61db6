-- Greatest common divisors by Euclid's algorithm: of two numbers, of a list, of a form, and lowest terms.
use Rattle.std.specs.Prelude.{ℕ, zero, suc, ◌%◌, ℤ, pos, unsigned_abs, List, [], ◌∷◌}
use Rattle.whole_numbers.specs.Floor.{floor, floors}
use Rattle.whole_numbers.specs.Affine.{Affine, form_of}

-- Euclid's algorithm, in at most so many steps
abbrev pub gcd_steps : ℕ → ℕ → ℕ → ℕ
gcd_steps zero m n = m
gcd_steps (suc steps) m zero = m
gcd_steps (suc steps) m (suc n) = gcd_steps steps (suc n) (m % suc n)

-- the greatest common divisor; 0 for 0 and 0
unfoldable pub gcd_of : ℕ → ℕ → ℕ
gcd_of m n = gcd_steps n m n

-- the greatest common divisor of g and all entries' sizes, in order
abbrev pub content_from : ℕ → List ℤ → ℕ
content_from g [] = g
content_from g (x ∷ xs) = content_from (gcd_of g (unsigned_abs x)) xs

-- a list's content: the greatest common divisor of its entries; 0 where all are 0
abbrev pub content : List ℤ → ℕ
content xs = content_from 0 xs

-- a list in lowest terms: each entry divided by the content, which leaves nothing; zeros stay
abbrev pub lowest : List ℤ → List ℤ
lowest xs = floors (pos (content xs)) xs

-- the greatest common divisor of a form's numbers: the constant, then the coefficients
abbrev pub content_of_form : Affine → ℕ
content_of_form f = content (f.constant ∷ f.coefficients)

-- a form in lowest terms
unfoldable pub lowest_of_form : Affine → Affine
lowest_of_form f =
    form_of (floors (pos (content_of_form f)) f.coefficients) (floor f.constant (pos (content_of_form f)))
