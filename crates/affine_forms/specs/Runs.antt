-- Arithmetic of lists and forms in 128 bits, number by number.
use Rattle.std.specs.Prelude.{ℕ, ℤ, pos, List, [], ◌∷◌, Result, Ok}
use Rattle.wide_math.specs.Affine.{Affine, form_of}
use Rattle.wide_math.specs.Lists.{zeros}
use Rattle.wide_math.specs.declared.Wide.{Wide}
use Rattle.wide_math.specs.Checked.{sum_of, product_of, cross_of, cross_sum_of, ◌>>=◌}
use Rattle.affine_forms.specs.Parts.{coefficient_of, without_variable}

-- Each run gives the exact result, or names the first number on its way that 128 bits do not hold.

-- sum + a b: the product, then the sum
unfoldable pub multiply_add_run : ℤ → ℤ → ℤ → Result ℤ Wide
multiply_add_run sum a b = product_of a b >>= λ product. sum_of sum product

-- `step` at each entry, in order
abbrev pub map_run : (ℤ → Result ℤ Wide) → List ℤ → Result (List ℤ) Wide
map_run step [] = Ok []
map_run step (x ∷ xs) = step x >>= λ z. map_run step xs >>= λ zs. Ok (z ∷ zs)

-- `step` at the two entries of each place, in order
abbrev pub zip_run : (ℤ → ℤ → Result ℤ Wide) → List ℤ → List ℤ → Result (List ℤ) Wide
zip_run step [] ys = Ok []
zip_run step (x ∷ xs) [] = Ok []
zip_run step (x ∷ xs) (y ∷ ys) = step x y >>= λ z. zip_run step xs ys >>= λ zs. Ok (z ∷ zs)

-- xs + ys
unfoldable pub added_run : List ℤ → List ℤ → Result (List ℤ) Wide
added_run xs ys = zip_run sum_of xs ys

-- k xs
unfoldable pub multiplied_run : ℤ → List ℤ → Result (List ℤ) Wide
multiplied_run k xs = map_run (product_of k) xs

-- xs + k ys
unfoldable pub added_multiple_run : List ℤ → ℤ → List ℤ → Result (List ℤ) Wide
added_multiple_run xs k ys = zip_run (λ x y. multiply_add_run x k y) xs ys

-- a xs + b ys
unfoldable pub multiples_sum_run : ℤ → List ℤ → ℤ → List ℤ → Result (List ℤ) Wide
multiples_sum_run a xs b ys = zip_run (λ x y. cross_sum_of a x b y) xs ys

-- a xs - b ys
unfoldable pub multiples_difference_run : ℤ → List ℤ → ℤ → List ℤ → Result (List ℤ) Wide
multiples_difference_run a xs b ys = zip_run (λ x y. cross_of a x b y) xs ys

-- sum plus the dot product, term by term
abbrev pub dot_run_from : ℤ → List ℤ → List ℤ → Result ℤ Wide
dot_run_from sum [] ys = Ok sum
dot_run_from sum (x ∷ xs) [] = Ok sum
dot_run_from sum (x ∷ xs) (y ∷ ys) = multiply_add_run sum x y >>= λ next. dot_run_from next xs ys

-- the dot product, summed from 0 on
abbrev pub dot_run : List ℤ → List ℤ → Result ℤ Wide
dot_run xs ys = dot_run_from (pos 0) xs ys

-- a form's value at a point: the dot product, then the constant
unfoldable pub value_run : Affine → List ℤ → Result ℤ Wide
value_run f point = dot_run f.coefficients point >>= λ sum. sum_of sum f.constant

-- the coefficients in order, then the constant
abbrev pub form_run : Result (List ℤ) Wide → Result ℤ Wide → Result Affine Wide
form_run coefficients constant = coefficients >>= λ zs. constant >>= λ z. Ok (form_of zs z)

-- `step` at the two numbers of each place: the coefficients in order, then the constant
abbrev pub combined_run : (ℤ → ℤ → Result ℤ Wide) → Affine → Affine → Result Affine Wide
combined_run step f g = form_run (zip_run step f.coefficients g.coefficients) (step f.constant g.constant)

-- f + g
unfoldable pub plus_run : Affine → Affine → Result Affine Wide
plus_run f g = form_run (added_run f.coefficients g.coefficients) (sum_of f.constant g.constant)

-- k f
unfoldable pub scaled_run : ℤ → Affine → Result Affine Wide
scaled_run k f = form_run (multiplied_run k f.coefficients) (product_of k f.constant)

-- f + k g
unfoldable pub plus_multiple_run : Affine → ℤ → Affine → Result Affine Wide
plus_multiple_run f k g =
    form_run (added_multiple_run f.coefficients k g.coefficients) (multiply_add_run f.constant k g.constant)

-- a f + b g
unfoldable pub forms_sum_run : ℤ → Affine → ℤ → Affine → Result Affine Wide
forms_sum_run a f b g =
    form_run (multiples_sum_run a f.coefficients b g.coefficients) (cross_sum_of a f.constant b g.constant)

-- a f - b g
unfoldable pub forms_difference_run : ℤ → Affine → ℤ → Affine → Result Affine Wide
forms_difference_run a f b g =
    form_run (multiples_difference_run a f.coefficients b g.coefficients) (cross_of a f.constant b g.constant)

-- f with g in place of a variable: f without the variable, plus its coefficient times g
unfoldable pub substitute_run : Affine → ℕ → Affine → Result Affine Wide
substitute_run f variable g =
    plus_multiple_run (without_variable f variable) (coefficient_of f variable) g

-- sum plus each of the forms times the factor at its place, form by form
abbrev pub plus_combination_run : Affine → List ℤ → List Affine → Result Affine Wide
plus_combination_run sum [] gs = Ok sum
plus_combination_run sum (k ∷ ks) [] = Ok sum
plus_combination_run sum (k ∷ ks) (g ∷ gs) =
    plus_multiple_run sum k g >>= λ next. plus_combination_run next ks gs

-- f with each variable replaced by a form over n variables, summed from the constant on
unfoldable pub compose_run : Affine → List Affine → ℕ → Result Affine Wide
compose_run f inner n = plus_combination_run (form_of (zeros n) f.constant) f.coefficients inner
