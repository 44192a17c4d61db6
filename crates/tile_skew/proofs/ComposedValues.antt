-- The values of composed forms at points of fractions, and how large they are.
use Rattle.scop_syntax.proofs.Common.{◌≡◌, ℕ, zero, suc, ◌+◌, ◌*◌, ◌<◌, ◌≤◌, ℤ, pos, List, [], ◌∷◌, ◌++◌, length, map}
use Rattle.scop_syntax.proofs.Common.{get_or, ap, ap₂, ◌∙◌, refl, arith, mul-le-mul, ◌+ℤ◌, ◌*ℤ◌, unsigned_abs, ints}
use Rattle.scop_syntax.proofs.Common.{unsigned_abs-mul, map-append, dot, zeros, Affine, form_of, sum_of_forms}
use Rattle.scop_syntax.proofs.Common.{multiple_of_form, plus_combination, composed, mul_zero_left, dot-unit, dot-zeros}
use Rattle.scop_syntax.proofs.Common.{abs_sum, Head, IsForm, size}
use Rattle.fractions.specs.Fractions.{value_over}
use Rattle.fractions.proofs.PointValues.{value_over-sum, value_over-multiple}
use Rattle.scop_syntax.proofs.Sizes.{dot_size}
use Rattle.iteration_domains.specs.Rows.{variable, variables, iterator, within_loop}
use Rattle.iteration_domains.proofs.RowLaws.{GoesOn}

-- d times the values of forms at the point numerators / d, in order
abbrev pub values_over : List Affine → ℤ → List ℤ → List ℤ
values_over forms d numerators = map (λ form. value_over form d numerators) forms

-- a form plus a combination
value_over-combination : (sum : Affine) (ks : List ℤ) (fs : List Affine) (d : ℤ) (xs : List ℤ)
    → value_over (plus_combination sum ks fs) d xs ≡ value_over sum d xs +ℤ dot ks (values_over fs d xs)
value_over-combination sum [] fs d xs = omega (arith, ints)
value_over-combination sum (k ∷ ks) [] d xs = omega (arith, ints)
value_over-combination sum (k ∷ ks) (f ∷ fs) d xs =
    let more = value_over-combination (sum_of_forms sum (multiple_of_form k f)) ks fs d xs in
    let s = value_over-sum sum (multiple_of_form k f) d xs in
    let m = value_over-multiple k f d xs in
    omega (arith, ints)

-- a composed form has the form's value at the values of the inner forms
pub value_over-composed : (f : Affine) (inner : List Affine) (n : ℕ) (d : ℤ) (xs : List ℤ)
    → value_over (composed f inner n) d xs ≡ value_over f d (values_over inner d xs)
value_over-composed f inner n d xs =
    let e = value_over-combination (form_of (zeros n) f.constant) f.coefficients inner d xs in
    let z = dot-zeros n xs in
    omega (arith, ints)

pub value_over-variable : (n j : ℕ) (d : ℤ) (xs : List ℤ) → j < n
    → value_over (variable n j) d xs ≡ get_or xs j (pos 0)
value_over-variable n j d xs h = let e = dot-unit n j xs h in let z = mul_zero_left d in omega (arith, ints)

-- variables have the numerators from their place on
pub values_over-variables : (n j m : ℕ) (d : ℤ) (xs ys : List ℤ) → n ≡ length xs → length ys ≡ m → GoesOn xs j ys
    → values_over (variables n j m) d xs ≡ ys
values_over-variables n j zero d xs [] e l g = refl
values_over-variables n j zero d xs (y ∷ ys) e l g = absurd (omega arith)
values_over-variables n j (suc m) d xs [] e l g = absurd (omega arith)
values_over-variables n j (suc m) d xs (y ∷ ys) e l g =
    let h = g.0 in
    ap₂ (λ (z : ℤ) (zs : List ℤ). z ∷ zs) (value_over-variable n j d xs (omega arith) ∙ g.1)
    (values_over-variables n (j + 1) m d xs ys e (omega arith) g.2)

-- the point within a loop at turn y
pub values_over-within : (n j : ℕ) (head : Head) (forms : List Affine) (d : ℤ) (xs : List ℤ) (y : ℤ) → j < n
    → get_or xs j (pos 0) ≡ y
    → values_over (within_loop n j head forms) d xs
    ≡ values_over forms d xs ++ (value_over head.first d (values_over forms d xs) +ℤ (head.stride *ℤ y)) ∷ []
values_over-within n j head forms d xs y h e =
    let last = iterator n j head forms in
    let s = value_over-sum (composed head.first forms n) (multiple_of_form head.stride (variable n j)) d xs in
    let c = value_over-composed head.first forms n d xs in
    let m = value_over-multiple head.stride (variable n j) d xs in
    let v = ap (λ z. head.stride *ℤ z) (value_over-variable n j d xs h ∙ e) in
    let l : value_over last d xs ≡ value_over head.first d (values_over forms d xs) +ℤ (head.stride *ℤ y) =
    omega (arith, ints) in
    map-append (λ form. value_over form d xs) forms (last ∷ []) ∙ ap (λ z. values_over forms d xs ++ z ∷ []) l

-- a form's value is at most its greatest coefficient times the size of the numerators, and its constant
pub value_over-size : (n k m : ℕ) (f : Affine) (d : ℤ) (xs : List ℤ) → IsForm n k m f
    → unsigned_abs (value_over f d xs) ≤ k * size xs + m * unsigned_abs d
value_over-size n k m f d xs is =
    let a = abs_sum (dot f.coefficients xs) (f.constant *ℤ d) in
    let s = dot_size k f.coefficients xs is.coefficients in
    let p = unsigned_abs-mul f.constant d in
    let same : unsigned_abs d ≤ unsigned_abs d = omega arith in
    let c : unsigned_abs f.constant * unsigned_abs d ≤ m * unsigned_abs d = mul-le-mul is.constant same in
    omega arith
