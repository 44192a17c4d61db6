-- A run that is Ok gives the exact result.
use Rattle.std.proofs.Common.{◌≡◌, ℕ, ℤ, pos, ◌+ℤ◌, ◌*ℤ◌, neg_ℤ, List, [], ◌∷◌, length, sym, ap₂, arith, Result, Ok}
use Rattle.std.proofs.Common.{Err, IfOk}
use Rattle.std.proofs.lemmas.Int.{ints}
use Rattle.std.proofs.Math.ListN.{length-set}
use Rattle.wide_math.specs.Lists.{dot, sums, multiples}
use Rattle.wide_math.specs.Affine.{Affine, value_of, sum_of_forms, multiple_of_form, substituted, form_of}
use Rattle.wide_math.proofs.Ring.{mul_one_left, mul_neg_left}
use Rattle.wide_math.proofs.Lists.{multiples-one}
use Rattle.wide_math.specs.declared.Wide.{Wide}
use Rattle.wide_math.specs.Checked.{sum_of, product_of, cross_of, cross_sum_of, ◌>>=◌}
use Rattle.wide_math.proofs.Steps.{sum_of-ok, product_of-ok, cross_of-exact, cross_sum_of-exact, chain-ok}
use Rattle.affine_forms.specs.declared.stop.FormStop.{FormStop}
use Rattle.affine_forms.specs.Gives.{Gives}
use Rattle.affine_forms.specs.Parts.{variables_of, coefficient_of, without_variable}
use Rattle.affine_forms.specs.Runs.{multiply_add_run, map_run, zip_run, added_run, multiplied_run}
use Rattle.affine_forms.specs.Runs.{added_multiple_run, dot_run, dot_run_from, value_run, plus_run, scaled_run}
use Rattle.affine_forms.specs.Runs.{plus_multiple_run, substitute_run, form_run, multiples_sum_run}
use Rattle.affine_forms.specs.Runs.{multiples_difference_run, forms_sum_run, forms_difference_run}

-- what holds of each Ok of a run holds of what a call gives
pub gives-ok : (result : Result Affine FormStop) (run : Result Affine Wide) (P : Affine → Type 0)
    → Gives (λ f. f) result run → ((f : Affine) → run ≡ Ok f → P f) → IfOk result P
gives-ok (Ok f) run P gave each = each f gave
gives-ok (Err e) run P gave each = tt

-- a product and then a sum
multiply_add_run-exact : (sum a b z : ℤ) → multiply_add_run sum a b ≡ Ok z → z ≡ sum +ℤ (a *ℤ b)
unfolding multiply_add_run
multiply_add_run-exact sum a b z h =
    let c = chain-ok (product_of a b) (λ (product : ℤ). sum_of sum product) z h in
    let p = ((product_of-ok a b c.0).0 c.1).0 in
    let s = ((sum_of-ok sum c.0 z).0 c.2).0 in
    omega (arith, ints)

-- a step at the two entries of each place that gives a x + b y
zip_run-exact : (step : ℤ → ℤ → Result ℤ Wide) (a b : ℤ) (xs ys zs : List ℤ)
    → ((x y z : ℤ) → step x y ≡ Ok z → z ≡ (a *ℤ x) +ℤ (b *ℤ y)) → length xs ≡ length ys
    → zip_run step xs ys ≡ Ok zs
    → zs ≡ sums (multiples a xs) (multiples b ys)
zip_run-exact step a b [] [] zs exact same h = cc
zip_run-exact step a b [] (y ∷ ys) zs exact same h = absurd (omega arith)
zip_run-exact step a b (x ∷ xs) [] zs exact same h = absurd (omega arith)
zip_run-exact step a b (x ∷ xs) (y ∷ ys) zs exact same h =
    let c = chain-ok (step x y) (λ (z : ℤ). zip_run step xs ys >>= λ rest. Ok (z ∷ rest)) zs h in
    let d = chain-ok (zip_run step xs ys) (λ (rest : List ℤ). Ok (c.0 ∷ rest)) zs c.2 in
    let z = exact x y c.0 c.1 in
    let rest = zip_run-exact step a b xs ys d.0 exact (omega arith) d.1 in
    cc (d.2)

-- a sum of rows
added_run-exact : (xs ys zs : List ℤ) → length xs ≡ length ys → added_run xs ys ≡ Ok zs → zs ≡ sums xs ys
unfolding added_run
added_run-exact xs ys zs same h =
    simp multiples-one at (zip_run-exact (λ x y. sum_of x y) (pos 1) (pos 1) xs ys zs
    (λ x y z e.
    let s = ((sum_of-ok x y z).0 e).0 in
    let p = mul_one_left x in
    let q = mul_one_left y in
    omega (arith, ints)) same h)

-- a multiple of a row
multiplied_run-exact : (k : ℤ) (xs zs : List ℤ) → map_run (product_of k) xs ≡ Ok zs
    → zs ≡ multiples k xs
multiplied_run-exact k [] zs h = cc
multiplied_run-exact k (x ∷ xs) zs h =
    let c = chain-ok (product_of k x)
    (λ (z : ℤ). map_run (product_of k) xs >>= λ rest. Ok (z ∷ rest)) zs h in
    let d = chain-ok (map_run (product_of k) xs) (λ (rest : List ℤ). Ok (c.0 ∷ rest)) zs c.2 in
    let z = ((product_of-ok k x c.0).0 c.1).0 in
    let rest = multiplied_run-exact k xs d.0 d.1 in
    cc (d.2)

-- a sum of a row and a multiple
added_multiple_run-exact : (xs : List ℤ) (k : ℤ) (ys zs : List ℤ) → length xs ≡ length ys
    → added_multiple_run xs k ys ≡ Ok zs → zs ≡ sums xs (multiples k ys)
unfolding added_multiple_run
added_multiple_run-exact xs k ys zs same h =
    simp multiples-one at (zip_run-exact (λ x y. multiply_add_run x k y) (pos 1) k xs ys zs
    (λ x y z e.
    let s = multiply_add_run-exact x k y z e in
    let p = mul_one_left x in
    omega (arith, ints)) same h)

-- a dot product
dot_run_from-exact : (sum : ℤ) (xs ys : List ℤ) (v : ℤ) → dot_run_from sum xs ys ≡ Ok v
    → v ≡ sum +ℤ dot xs ys
dot_run_from-exact sum [] ys v h = let e : v ≡ sum = cc in omega (arith, ints)
dot_run_from-exact sum (x ∷ xs) [] v h = let e : v ≡ sum = cc in omega (arith, ints)
dot_run_from-exact sum (x ∷ xs) (y ∷ ys) v h =
    let c = chain-ok (multiply_add_run sum x y) (λ (next : ℤ). dot_run_from next xs ys) v h in
    let z = multiply_add_run-exact sum x y c.0 c.1 in
    let rest = dot_run_from-exact c.0 xs ys v c.2 in
    omega (arith, ints)

-- a value
pub value_run-exact : (f : Affine) (point : List ℤ) (v : ℤ) → value_run f point ≡ Ok v
    → v ≡ value_of f point
unfolding value_run
value_run-exact f point v h =
    let c = chain-ok (dot_run f.coefficients point) (λ (sum : ℤ). sum_of sum f.constant) v h in
    let d = dot_run_from-exact (pos 0) f.coefficients point c.0 c.1 in
    let s = ((sum_of-ok c.0 f.constant v).0 c.2).0 in
    omega (arith, ints)

-- a form whose run is Ok is made of its parts
form_run-ok : (coefficients : Result (List ℤ) Wide) (constant : Result ℤ Wide) (h : Affine)
    → form_run coefficients constant ≡ Ok h → (coefficients ≡ Ok h.coefficients) × (constant ≡ Ok h.constant)
form_run-ok (Ok zs) (Ok z) h run = (cc, cc)
form_run-ok (Ok zs) (Err w) h run = absurd cc
form_run-ok (Err w) constant h run = absurd cc

-- a sum of forms
pub plus_run-exact : (f g h : Affine) → variables_of g ≡ variables_of f → plus_run f g ≡ Ok h
    → h ≡ sum_of_forms f g
unfolding plus_run
plus_run-exact f g h same run =
    let p = form_run-ok (added_run f.coefficients g.coefficients) (sum_of f.constant g.constant) h run in
    ap₂ form_of (added_run-exact f.coefficients g.coefficients h.coefficients (sym same) p.0)
    ((sum_of-ok f.constant g.constant h.constant).0 p.1).0

-- a multiple of a form
pub scaled_run-exact : (k : ℤ) (f h : Affine) → scaled_run k f ≡ Ok h → h ≡ multiple_of_form k f
unfolding scaled_run multiplied_run
scaled_run-exact k f h run =
    let p = form_run-ok (multiplied_run k f.coefficients) (product_of k f.constant) h run in
    ap₂ form_of (multiplied_run-exact k f.coefficients h.coefficients p.0)
    ((product_of-ok k f.constant h.constant).0 p.1).0

-- a sum of a form and a multiple
pub plus_multiple_run-exact : (f : Affine) (k : ℤ) (g h : Affine) → variables_of g ≡ variables_of f
    → plus_multiple_run f k g ≡ Ok h → h ≡ sum_of_forms f (multiple_of_form k g)
unfolding plus_multiple_run
plus_multiple_run-exact f k g h same run =
    let p = form_run-ok (added_multiple_run f.coefficients k g.coefficients)
    (multiply_add_run f.constant k g.constant) h run in
    ap₂ form_of (added_multiple_run-exact f.coefficients k g.coefficients h.coefficients (sym same) p.0)
    (multiply_add_run-exact f.constant k g.constant h.constant p.1)

-- a sum of multiples of forms
pub forms_sum_run-exact : (a : ℤ) (f : Affine) (b : ℤ) (g h : Affine) → variables_of g ≡ variables_of f
    → forms_sum_run a f b g ≡ Ok h → h ≡ sum_of_forms (multiple_of_form a f) (multiple_of_form b g)
unfolding forms_sum_run multiples_sum_run
forms_sum_run-exact a f b g h same run =
    let p = form_run-ok (multiples_sum_run a f.coefficients b g.coefficients)
    (cross_sum_of a f.constant b g.constant) h run in
    ap₂ form_of (zip_run-exact (λ x y. cross_sum_of a x b y) a b f.coefficients g.coefficients h.coefficients
    (λ x y z e. cross_sum_of-exact a x b y z e) (sym same) p.0)
    (cross_sum_of-exact a f.constant b g.constant h.constant p.1)

-- the step of a difference, with the second factor negated
difference_step : (a x b y z : ℤ) → cross_of a x b y ≡ Ok z → z ≡ (a *ℤ x) +ℤ (neg_ℤ b *ℤ y)
difference_step a x b y z h =
    let e = cross_of-exact a x b y z h in let n = mul_neg_left b y in omega (arith, ints)

-- a difference of multiples of forms
pub forms_difference_run-exact : (a : ℤ) (f : Affine) (b : ℤ) (g h : Affine) → variables_of g ≡ variables_of f
    → forms_difference_run a f b g ≡ Ok h → h ≡ sum_of_forms (multiple_of_form a f) (multiple_of_form (neg_ℤ b) g)
unfolding forms_difference_run multiples_difference_run
forms_difference_run-exact a f b g h same run =
    let p = form_run-ok (multiples_difference_run a f.coefficients b g.coefficients)
    (cross_of a f.constant b g.constant) h run in
    ap₂ form_of (zip_run-exact (λ x y. cross_of a x b y) a (neg_ℤ b) f.coefficients g.coefficients h.coefficients
    (λ x y z e. difference_step a x b y z e) (sym same) p.0)
    (difference_step a f.constant b g.constant h.constant p.1)

-- a substitution
pub substitute_run-exact : (f : Affine) (variable : ℕ) (g h : Affine)
    → variables_of g ≡ variables_of f → substitute_run f variable g ≡ Ok h
    → h ≡ substituted variable f g
unfolding substitute_run
substitute_run-exact f variable g h same run =
    let kept = without_variable f variable in
    plus_multiple_run-exact kept (coefficient_of f variable) g h (simp length-set same) run
