-- What a run's form is worth at each point.
use Rattle.std.proofs.Common.{◌≡◌, ℕ, suc, ◌<◌, ℤ, List, [], ◌∷◌, sym, ap, ◌∙◌, arith, All, Ok}
use Rattle.wide_math.specs.Lists.{multiples, zeros}
use Rattle.wide_math.specs.Affine.{Affine, value_of, form_of, plus_combination, composed}
use Rattle.wide_math.proofs.Dot.{length-sums, length-multiples, length-zeros}
use Rattle.wide_math.proofs.Values.{value_of-sum, value_of-multiple, value_of-substituted}
use Rattle.wide_math.proofs.Values.{value_of-composed, length-combination}
use Rattle.wide_math.proofs.Steps.{chain-ok}
use Rattle.affine_forms.specs.Parts.{variables_of}
use Rattle.affine_forms.specs.Runs.{plus_run, scaled_run, plus_multiple_run, substitute_run, compose_run}
use Rattle.affine_forms.specs.Runs.{plus_combination_run}
use Rattle.affine_forms.specs.Values.{IsSum, IsMultiple, IsSubstitution, IsComposition}
use Rattle.affine_forms.proofs.Exact.{plus_run-exact, scaled_run-exact, plus_multiple_run-exact}
use Rattle.affine_forms.proofs.Exact.{substitute_run-exact}

-- a sum of forms
pub plus_run-value : (f g h : Affine) → variables_of g ≡ variables_of f → plus_run f g ≡ Ok h
    → IsSum f g h
plus_run-value f g h same run point fits =
    let e = ap (λ (s : Affine). value_of s point) (plus_run-exact f g h same run) in
    e ∙ value_of-sum f g point

-- a multiple of a form
pub scaled_run-value : (k : ℤ) (f h : Affine) → scaled_run k f ≡ Ok h → IsMultiple k f h
scaled_run-value k f h run point fits =
    let e = ap (λ (s : Affine). value_of s point) (scaled_run-exact k f h run) in
    e ∙ value_of-multiple k f point

-- a form in place of a variable
pub substitute_run-value : (f : Affine) (variable : ℕ) (g h : Affine) → variable < variables_of f
    → variables_of g ≡ variables_of f → substitute_run f variable g ≡ Ok h
    → IsSubstitution f variable g h
substitute_run-value f variable g h inside same run point fits =
    let e = ap (λ (s : Affine). value_of s point) (substitute_run-exact f variable g h same run) in
    e ∙ value_of-substituted variable f g point inside (rw fits inside)

-- a sum keeps the number of variables
pub plus_multiple_run-variables : (f : Affine) (k : ℤ) (g h : Affine)
    → variables_of g ≡ variables_of f → plus_multiple_run f k g ≡ Ok h
    → variables_of h ≡ variables_of f
plus_multiple_run-variables f k g h same run =
    let e = plus_multiple_run-exact f k g h same run in
    let m = length-multiples k g.coefficients in
    let s = length-sums f.coefficients (multiples k g.coefficients) (sym (m ∙ same)) in
    ap variables_of e ∙ s

-- a sum with each of some forms times its factor
plus_combination_run-exact : (sum : Affine) (ks : List ℤ) (gs : List Affine) (h : Affine)
    → All (λ g. variables_of g ≡ variables_of sum) gs → plus_combination_run sum ks gs ≡ Ok h
    → h ≡ plus_combination sum ks gs
plus_combination_run-exact sum [] gs h same run = cc
plus_combination_run-exact sum (k ∷ ks) [] h same run = cc
plus_combination_run-exact sum (k ∷ ks) (g ∷ gs) h same run =
    let c = chain-ok (plus_multiple_run sum k g)
    (λ (next : Affine). plus_combination_run next ks gs) h run in
    let here : variables_of g ≡ variables_of sum = same 0 g (omega arith) in
    let first = plus_multiple_run-exact sum k g c.0 here c.1 in
    let kept = plus_multiple_run-variables sum k g c.0 here c.1 in
    let all : All (λ g. variables_of g ≡ variables_of c.0) gs =
    λ j d inside. same (suc j) d (omega arith) ∙ sym kept in
    plus_combination_run-exact c.0 ks gs h all c.2 ∙ ap (λ (s : Affine). plus_combination s ks gs) first

-- a form at the values of forms
pub compose_run-exact : (f : Affine) (inner : List Affine) (n : ℕ) (h : Affine)
    → All (λ g. variables_of g ≡ n) inner → compose_run f inner n ≡ Ok h → h ≡ composed f inner n
unfolding compose_run
compose_run-exact f inner n h same run =
    plus_combination_run-exact (form_of (zeros n) f.constant) f.coefficients inner h (rw (length-zeros n) same) run

pub compose_run-value : (f : Affine) (inner : List Affine) (n : ℕ) (h : Affine)
    → All (λ g. variables_of g ≡ n) inner → compose_run f inner n ≡ Ok h → IsComposition f inner n h
compose_run-value f inner n h same run point fits =
    ap (λ (g : Affine). value_of g point) (compose_run-exact f inner n h same run)
    ∙ value_of-composed f inner n point

pub compose_run-variables : (f : Affine) (inner : List Affine) (n : ℕ) (h : Affine)
    → All (λ g. variables_of g ≡ n) inner → compose_run f inner n ≡ Ok h → variables_of h ≡ n
compose_run-variables f inner n h same run =
    ap variables_of (compose_run-exact f inner n h same run)
    ∙ length-combination n (form_of (zeros n) f.constant) f.coefficients inner (length-zeros n) same
