-- The parts of a form: its number of variables, a coefficient, the form without a variable.
use Rattle.std.specs.Prelude.{ℕ, ℤ, pos, length, get_or, slice_set}
use Rattle.wide_math.specs.Affine.{Affine, form_of}

-- how many variables a form speaks of
abbrev pub variables_of : Affine → ℕ
variables_of f = length f.coefficients

-- a form's coefficient of a variable, 0 past the last
abbrev pub coefficient_of : Affine → ℕ → ℤ
coefficient_of f variable = get_or f.coefficients variable (pos 0)

-- a form with 0 as its coefficient of a variable
abbrev pub without_variable : Affine → ℕ → Affine
without_variable f variable = form_of (slice_set f.coefficients variable (pos 0)) f.constant
