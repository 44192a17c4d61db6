-- Affine forms over whole numbers: values at a point, sums, multiples, substitution, composition, complement.
use Rattle.std.specs.Prelude.{ℕ, ℤ, pos, negsuc, neg_ℤ, ◌+ℤ◌, ◌-ℤ◌, ◌*ℤ◌, List, [], ◌∷◌, ◌++◌, map, get_or, set}
use Rattle.std.specs.Prelude.{take, drop}
use Rattle.whole_numbers.specs.Lists.{dot, sums, multiples, zeros}

-- an affine form: a linear part, one coefficient a variable, and a constant
pub record Affine : Type 0 where
  pub coefficients : List ℤ
  pub constant : ℤ

-- the form with these coefficients and this constant
abbrev pub form_of : List ℤ → ℤ → Affine
form_of coefficients constant = record { coefficients = coefficients; constant = constant }

-- its value at a point: the dot product plus the constant
abbrev pub value_of : Affine → List ℤ → ℤ
value_of form point = dot form.coefficients point +ℤ form.constant

-- the sum of two forms
abbrev pub sum_of_forms : Affine → Affine → Affine
sum_of_forms f g = form_of (sums f.coefficients g.coefficients) (f.constant +ℤ g.constant)

-- a form times k
abbrev pub multiple_of_form : ℤ → Affine → Affine
multiple_of_form k f = form_of (multiples k f.coefficients) (k *ℤ f.constant)

-- a form with its variable i replaced by the form g
abbrev pub substituted : ℕ → Affine → Affine → Affine
substituted i f g =
    sum_of_forms (form_of (set f.coefficients i (pos 0)) f.constant)
    (multiple_of_form (get_or f.coefficients i (pos 0)) g)

-- the values of forms at a point, in order
abbrev pub values_of : List Affine → List ℤ → List ℤ
values_of forms point = map (λ f. value_of f point) forms

-- a form plus each of the forms times the factor at its place
abbrev pub plus_combination : Affine → List ℤ → List Affine → Affine
plus_combination sum [] forms = sum
plus_combination sum (k ∷ ks) [] = sum
plus_combination sum (k ∷ ks) (f ∷ fs) = plus_combination (sum_of_forms sum (multiple_of_form k f)) ks fs

-- a form with each variable replaced by a form over n variables
abbrev pub composed : Affine → List Affine → ℕ → Affine
composed f inner n = plus_combination (form_of (zeros n) f.constant) f.coefficients inner

-- a form over one variable more, at a place, of which it does not speak
abbrev pub widened : ℕ → Affine → Affine
widened place f = form_of (take place f.coefficients ++ pos 0 ∷ drop place f.coefficients) f.constant

-- - f - 1: at whole points not negative exactly where f is below 0
abbrev pub complement : Affine → Affine
complement f = form_of (multiples (negsuc 0) f.coefficients) (neg_ℤ f.constant -ℤ pos 1)
