-- Runs whose numbers stay small are never too wide.
use Rattle.scop_syntax.proofs.Common.{◌≡◌, ℕ, ◌+◌, ◌*◌, ◌^◌, ◌≤◌, ℤ, pos, ◌+ℤ◌, ◌*ℤ◌, List, [], ◌∷◌, length, sym, ◌∙◌}
use Rattle.scop_syntax.proofs.Common.{refl, arith, mul-le-mul, mul-add, Ok, All, unsigned_abs, w128, unsigned_abs-mul}
use Rattle.scop_syntax.proofs.Common.{fits_signed_from_abs, All-head, All-tail, fits, sums, multiples, zeros, Affine}
use Rattle.scop_syntax.proofs.Common.{form_of, sum_of_forms, multiple_of_form, plus_combination, composed, fits_iff}
use Rattle.scop_syntax.proofs.Common.{mul_one_left, length-zeros, length-sums, length-multiples, abs_sum, AreAtMost}
use Rattle.std.specs.Prelude.{IsTrue}
use Rattle.integer_sets.specs.Op.TheVariants.{Add, Mul}
use Rattle.integer_sets.specs.Checked.{cross_sum_of}
use Rattle.integer_sets.proofs.CheckedSteps.{checked-fits}
use Rattle.integer_sets.specs.Parts.{variables_of}
use Rattle.integer_sets.specs.FormRuns.{multiply_add_run, zip_run, added_multiple_run, plus_multiple_run}
use Rattle.integer_sets.specs.FormRuns.{plus_combination_run, compose_run, multiples_sum_run, forms_sum_run}
use Rattle.iteration_domains.specs.Sizes.{size, form_size, forms_size, CanCompose}
use Rattle.iteration_domains.proofs.Sizes.{size-sum, size-multiple, size-zeros}

small_fits : (z : ℤ) → unsigned_abs z ≤ 2 ^ 100 → IsTrue (fits z)
small_fits z h = (fits_iff z).1 (fits_signed_from_abs w128 z (omega arith))

-- sum + a b
multiply_add_small : (sum a b : ℤ) → unsigned_abs sum + unsigned_abs a * unsigned_abs b ≤ 2 ^ 100
    → multiply_add_run sum a b ≡ Ok (sum +ℤ (a *ℤ b))
unfolding multiply_add_run
multiply_add_small sum a b h =
    let m = unsigned_abs-mul a b in
    let s = abs_sum sum (a *ℤ b) in
    rw (checked-fits Mul a b (a *ℤ b) (small_fits (a *ℤ b) (omega arith)))
    (checked-fits Add sum (a *ℤ b) (sum +ℤ (a *ℤ b)) (small_fits (sum +ℤ (a *ℤ b)) (omega arith)))

-- xs + k ys
added_small : (xs : List ℤ) (k : ℤ) (ys : List ℤ) → length xs ≡ length ys
    → size xs + unsigned_abs k * size ys ≤ 2 ^ 100
    → zip_run (λ x y. multiply_add_run x k y) xs ys ≡ Ok (sums xs (multiples k ys))
added_small [] k [] same h = refl
added_small [] k (y ∷ ys) same h = absurd (omega arith)
added_small (x ∷ xs) k [] same h = absurd (omega arith)
added_small (x ∷ xs) k (y ∷ ys) same h =
    let d = mul-add (unsigned_abs k) (unsigned_abs y) (size ys) in
    rw (multiply_add_small x k y (omega arith), added_small xs k ys (omega arith) (omega arith)) refl

-- f + k g
plus_small : (f : Affine) (k : ℤ) (g : Affine) → length f.coefficients ≡ length g.coefficients
    → form_size f + unsigned_abs k * form_size g ≤ 2 ^ 100
    → plus_multiple_run f k g ≡ Ok (sum_of_forms f (multiple_of_form k g))
unfolding plus_multiple_run added_multiple_run
plus_small f k g same h =
    let d = mul-add (unsigned_abs k) (size g.coefficients) (unsigned_abs g.constant) in
    rw (
      added_small f.coefficients k g.coefficients same (omega arith),
      multiply_add_small f.constant k g.constant
          (omega arith),
    ) refl

-- form by form
combination_small : (n k : ℕ) (sum : Affine) (cs : List ℤ) (forms : List Affine) → length sum.coefficients ≡ n
    → All (λ g. variables_of g ≡ n) forms → AreAtMost k cs → form_size sum + k * forms_size forms ≤ 2 ^ 100
    → plus_combination_run sum cs forms ≡ Ok (plus_combination sum cs forms)
combination_small n k sum [] forms l sized h few = refl
combination_small n k sum (c ∷ cs) [] l sized h few = refl
combination_small n k sum (c ∷ cs) (f ∷ fs) l sized h few =
    let own = All-head (λ g. variables_of g ≡ n) f fs sized in
    let next = sum_of_forms sum (multiple_of_form c f) in
    let s = size-sum sum (multiple_of_form c f) in
    let m = size-multiple c f in
    let same : form_size f ≤ form_size f = omega arith in
    let t : unsigned_abs c * form_size f ≤ k * form_size f = mul-le-mul h.0 same in
    let d = mul-add k (form_size f) (forms_size fs) in
    let lm = length-multiples c f.coefficients in
    let e : length sum.coefficients ≡ length (multiples c f.coefficients) = l ∙ (sym own ∙ sym lm) in
    let ln : length next.coefficients ≡ n = length-sums sum.coefficients (multiples c f.coefficients) e ∙ l in
    rw (plus_small sum c f (l ∙ sym own) (omega arith))
    (combination_small n k next cs fs ln (All-tail (λ g. variables_of g ≡ n) f fs sized) h.1 (omega arith))

pub compose_small : (n : ℕ) (forms : List Affine) (f : Affine) → CanCompose n forms f
    → compose_run f forms n ≡ Ok (composed f forms n)
unfolding compose_run
compose_small n forms f can =
    let z = size-zeros n in
    let few = can.small in
    combination_small n can.greatest (form_of (zeros n) f.constant) f.coefficients forms (length-zeros n) can.sized
    can.entries (omega arith)

-- a b + c d, where the second factor's size counts as its product
cross_small : (x k y : ℤ) → unsigned_abs x + unsigned_abs k * unsigned_abs y ≤ 2 ^ 100
    → cross_sum_of (pos 1) x k y ≡ Ok (x +ℤ (k *ℤ y))
unfolding cross_sum_of
cross_small x k y h =
    let m = unsigned_abs-mul k y in
    let s = abs_sum x (k *ℤ y) in
    let o : pos 1 *ℤ x ≡ x = mul_one_left x in
    rw (
      checked-fits Mul (pos 1) x (pos 1 *ℤ x) (small_fits (pos 1 *ℤ x) (rw o (omega arith))),
      checked-fits Mul k y
          (k *ℤ y) (small_fits (k *ℤ y) (omega arith)),
      o,
    )
    (checked-fits Add x (k *ℤ y) (x +ℤ (k *ℤ y)) (small_fits (x +ℤ (k *ℤ y)) (omega arith)))

crosses_small : (xs : List ℤ) (k : ℤ) (ys : List ℤ) → length xs ≡ length ys
    → size xs + unsigned_abs k * size ys ≤ 2 ^ 100
    → zip_run (λ x y. cross_sum_of (pos 1) x k y) xs ys ≡ Ok (sums xs (multiples k ys))
crosses_small [] k [] same h = refl
crosses_small [] k (y ∷ ys) same h = absurd (omega arith)
crosses_small (x ∷ xs) k [] same h = absurd (omega arith)
crosses_small (x ∷ xs) k (y ∷ ys) same h =
    let d = mul-add (unsigned_abs k) (unsigned_abs y) (size ys) in
    rw (cross_small x k y (omega arith), crosses_small xs k ys (omega arith) (omega arith)) refl

pub sum_small : (f : Affine) (k : ℤ) (g : Affine) → variables_of g ≡ variables_of f
    → form_size f + unsigned_abs k * form_size g ≤ 2 ^ 100
    → forms_sum_run (pos 1) f k g ≡ Ok (sum_of_forms f (multiple_of_form k g))
unfolding forms_sum_run multiples_sum_run
sum_small f k g same h =
    let d = mul-add (unsigned_abs k) (size g.coefficients) (unsigned_abs g.constant) in
    rw (
      crosses_small f.coefficients k g.coefficients (sym same) (omega arith),
      cross_small f.constant k g.constant
          (omega arith),
    ) refl

-- a composition over n variables is over n variables
