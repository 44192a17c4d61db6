-- What stands round a statement gone through one by one: its rows, the lengths of its forms, and their sizes.
use Rattle.scop_syntax.proofs.Common.{◌≡◌, ℕ, zero, suc, ◌+◌, ◌-◌, ◌*◌, ◌^◌, ◌<◌, ◌≤◌, pos, List, [], ◌∷◌, ◌++◌, length}
use Rattle.scop_syntax.proofs.Common.{map, drop, get_or, ap, ap₂, subst, sym, ◌∙◌, refl, arith, add-one, drop-cons}
use Rattle.scop_syntax.proofs.Common.{length-append, mul-le-mul, All, All-nil, All-cons, All-head, All-tail, All-append}
use Rattle.scop_syntax.proofs.Common.{zeros, multiples, Affine, form_of, composed, length-zeros, length-sums}
use Rattle.scop_syntax.proofs.Common.{length-multiples, Test, Head, IsForm, IsComparison, AreScopes, test_form, Scope}
use Rattle.scop_syntax.proofs.Common.{round, under, loops_in, test_of}
use Rattle.std.proofs.Math.ListN.{length-set}
use Rattle.std.proofs.lemmas.List.{append_assoc}
use Rattle.whole_numbers.proofs.Values.{length-combination}
use Rattle.integer_sets.specs.Parts.{variables_of}
use Rattle.scop_syntax.specs.declared.tree.Test.{Test as CodeTest}
use Rattle.iteration_domains.specs.Rows.{variable, variables, composed_test, iterator, within_loop, rows_from}
use Rattle.iteration_domains.specs.Rows.{forms_from}
use Rattle.iteration_domains.specs.Constraints.{equalities_in, rows_in}
use Rattle.iteration_domains.specs.Sizes.{forms_size, grown, CanCompose}
use Rattle.iteration_domains.specs.Standing.{Standing, finished, entered, CanEnter}
use Rattle.iteration_domains.specs.Path.{scope_of, scopes_of}
use Rattle.iteration_domains.specs.declared.rows.Scope.{Scope as CodeScope}
use Rattle.iteration_domains.proofs.Points.{equalities_in-append, rows_in-append}
use Rattle.iteration_domains.proofs.Sizes.{sizes-within}

-- sizes within more loops
pub grown_more : (d s t : ℕ) → s ≤ t → grown d s ≤ grown d t
grown_more zero s t h = h
grown_more (suc d) s t h = grown_more d (17 * s + 2 ^ 21) (17 * t + 2 ^ 21) (omega arith)

pub grown_up : (d s : ℕ) → s ≤ grown d s
grown_up zero s = omega arith
grown_up (suc d) s = let r = grown_up d (17 * s + 2 ^ 21) in omega arith

pub grown_five : (d s : ℕ) → d ≤ 5 → s ≤ 2 ^ 18 → grown d s ≤ 2 ^ 40
grown_five d s few small = let m = grown_more d s (2 ^ 18) small in let f = five d few in omega arith
  where
    five : (d : ℕ) → d ≤ 5 → grown d (2 ^ 18) ≤ 2 ^ 40
    five zero h = omega arith
    five (suc zero) h = omega arith
    five (suc (suc zero)) h = omega arith
    five (suc (suc (suc zero))) h = omega arith
    five (suc (suc (suc (suc zero)))) h = omega arith
    five (suc (suc (suc (suc (suc zero))))) h = omega arith
    five (suc (suc (suc (suc (suc (suc d)))))) h = absurd (omega arith)

-- a form of the text can be composed
pub can_compose : (n k m : ℕ) (forms : List Affine) (f : Affine) → IsForm (length forms) k m f
    → All (λ g. variables_of g ≡ n) forms → k ≤ 32 → m ≤ 2 ^ 22 → forms_size forms ≤ 2 ^ 60 → CanCompose n forms f
can_compose n k m forms f is sized few low small =
    let p : k * forms_size forms ≤ 32 * 2 ^ 60 = mul-le-mul few small in
    let c = is.constant in
    record {
      count = sym is.entries;
      sized = sized;
      greatest = k;
      entries = is.coefficients;
      small = omega arith;
    }

-- forms over n variables
pub length-variable : (n j : ℕ) → variables_of (variable n j) ≡ n
length-variable n j = length-set (zeros n) j (pos 1) ∙ length-zeros n

pub sized-variables : (n j m : ℕ) → All (λ f. variables_of f ≡ n) (variables n j m)
sized-variables n j zero = All-nil (λ f. variables_of f ≡ n)
sized-variables n j (suc m) =
    All-cons (λ f. variables_of f ≡ n) (variable n j) (variables n (j + 1) m) (length-variable n j)
    (sized-variables n (j + 1) m)

pub length-variables : (n j m : ℕ) → length (variables n j m) ≡ m
length-variables n j zero = refl
length-variables n j (suc m) = let r = length-variables n (j + 1) m in omega arith

pub length-composed : (n : ℕ) (f : Affine) (forms : List Affine) → All (λ g. variables_of g ≡ n) forms
    → variables_of (composed f forms n) ≡ n
length-composed n f forms sized =
    length-combination n (form_of (zeros n) f.constant) f.coefficients forms (length-zeros n) sized

pub length-iterator : (n j : ℕ) (head : Head) (forms : List Affine) → All (λ g. variables_of g ≡ n) forms
    → variables_of (iterator n j head forms) ≡ n
length-iterator n j head forms sized =
    let c = length-composed n head.first forms sized in
    let m = length-multiples head.stride (variable n j).coefficients ∙ length-variable n j in
    length-sums (composed head.first forms n).coefficients (multiples head.stride (variable n j).coefficients)
    (c ∙ sym m) ∙ c

pub sized-within : (n j : ℕ) (head : Head) (forms : List Affine) → All (λ g. variables_of g ≡ n) forms
    → All (λ g. variables_of g ≡ n) (within_loop n j head forms)
sized-within n j head forms sized =
    let P : Affine → Type 0 = λ g. variables_of g ≡ n in
    All-append P forms (iterator n j head forms ∷ []) sized
    (All-cons P (iterator n j head forms) [] (length-iterator n j head forms sized) (All-nil P))

pub finished-entered : (s : Standing) (scope : Scope) (rest : List Scope)
    → finished (entered s scope) rest ≡ finished s (scope ∷ rest)
finished-entered s (under tests) rest =
    let here = map (composed_test s.variables s.forms) tests in
    let there = rows_from s.variables s.loops rest s.forms in
    ap₂ (λ (es rs : List Affine). record {
      forms = forms_from s.variables s.loops rest s.forms;
      equalities = es;
      rows = rs;
    })
    (append_assoc s.equalities (equalities_in here) (equalities_in there)
    ∙ ap (λ (es : List Affine). s.equalities ++ es) (sym (equalities_in-append here there)))
    (append_assoc s.rows (rows_in here) (rows_in there)
    ∙ ap (λ (rs : List Affine). s.rows ++ rs) (sym (rows_in-append here there)))
finished-entered s (round head) rest =
    let n = s.variables in
    let inner = within_loop n s.loops head s.forms in
    let here = variable n s.loops ∷ composed head.condition inner n ∷ [] in
    let there = rows_from n (s.loops + 1) rest inner in
    ap (λ (rs : List Affine). record {
      forms = forms_from n (s.loops + 1) rest inner;
      equalities = s.equalities ++ equalities_in there;
      rows = rs;
    })
    (append_assoc s.rows here (rows_in there))

-- what can be gone through can be so one by one
pub can_one : (s : Standing) (scope : Scope) (rest : List Scope) → CanEnter s (scope ∷ rest) → CanEnter s (scope ∷ [])
can_one s (under tests) rest can =
    let g = grown_up (loops_in rest) (forms_size s.forms) in
    let l = can.loops in
    let m = can.small in
    record { sized = can.sized; scopes = (can.scopes.0, tt); loops = omega arith; small = omega arith }
can_one s (round head) rest can =
    let g = grown_up (loops_in rest) (17 * forms_size s.forms + 2 ^ 21) in
    let l = can.loops in
    let m = can.small in
    record { sized = can.sized; scopes = (can.scopes.0, tt); loops = omega arith; small = omega arith }

pub can_enter : (s : Standing) (scope : Scope) (rest : List Scope) → CanEnter s (scope ∷ rest)
    → CanEnter (entered s scope) rest
can_enter s (under tests) rest can =
    record { sized = can.sized; scopes = can.scopes.1; loops = can.loops; small = can.small }
can_enter s (round head) rest can =
    let n = s.variables in
    let inner = within_loop n s.loops head s.forms in
    let is = can.scopes.0 in
    let l = length-append s.forms (iterator n s.loops head s.forms ∷ []) in
    let b = sizes-within (length s.forms) n s.loops head s.forms is.first is.stride in
    let m = grown_more (loops_in rest) (forms_size inner) (17 * forms_size s.forms + 2 ^ 21) b in
    let few = can.loops in
    let small = can.small in
    record {
      sized = sized-within n s.loops head s.forms can.sized;
      scopes = subst (λ k. AreScopes k rest) (sym l) can.scopes.1;
      loops = omega arith;
      small = omega arith;
    }

-- the comparisons of a guard
pub tests_compose : (n : ℕ) (forms : List Affine) (tests : List CodeTest) → All (λ g. variables_of g ≡ n) forms
    → forms_size forms ≤ 2 ^ 60 → All (λ test. IsComparison (length forms) (test_form test)) (map test_of tests)
    → All (λ test. CanCompose n forms (test_form (test_of test))) tests
tests_compose n forms [] sized small all = All-nil (λ (test : CodeTest). CanCompose n forms (test_form (test_of test)))
tests_compose n forms (test ∷ tests) sized small all =
    let P : Test → Type 0 = λ test. IsComparison (length forms) (test_form test) in
    All-cons (λ (test : CodeTest). CanCompose n forms (test_form (test_of test))) test tests
    (can_compose n 32 (2 ^ 21 + 1) forms (test_form (test_of test))
    (All-head P (test_of test) (map test_of tests) all) sized (omega arith) (omega arith) small)
    (tests_compose n forms tests sized small (All-tail P (test_of test) (map test_of tests) all))

-- what stands round a statement, of which the first have been gone through
pub record Entering (now start : Standing) (path : List CodeScope) (i : ℕ) : Type 0 where
  pub rows : finished now (scopes_of (drop i path)) ≡ finished start (scopes_of path)
  pub can : CanEnter now (scopes_of (drop i path))

path_here : (path : List CodeScope) (i : ℕ) (scope : CodeScope) → scope ≡ get_or path i scope → i < length path
    → scopes_of (drop i path) ≡ scope_of scope ∷ scopes_of (drop (i + 1) path)
path_here path i scope found h =
    let first : drop i path ≡ get_or path i scope ∷ drop (i + 1) path = rw (add-one, drop-cons path i scope h) refl in
    ap scopes_of (first ∙ ap (λ (s : CodeScope). s ∷ drop (i + 1) path) (sym found))

pub scope_can : (now start : Standing) (path : List CodeScope) (i : ℕ) (scope : CodeScope)
    → scope ≡ get_or path i scope → i < length path → Entering now start path i
    → CanEnter now (scopes_of (scope ∷ []))
scope_can now start path i scope found h e =
    can_one now (scope_of scope) (scopes_of (drop (i + 1) path))
    (subst (CanEnter now) (path_here path i scope found h) e.can)

pub scope_step : (now next start : Standing) (path : List CodeScope) (i : ℕ) (scope : CodeScope)
    → scope ≡ get_or path i scope → i < length path → Entering now start path i
    → next ≡ entered now (scope_of scope) → Entering next start path (i + 1)
scope_step now next start path i scope found h e is =
    let rest = scopes_of (drop (i + 1) path) in
    let here = path_here path i scope found h in
    record {
      rows = ap (λ (s : Standing). finished s rest) is
          ∙ (finished-entered now (scope_of scope) rest
          ∙ (ap (finished now) (sym here) ∙ e.rows));
      can = subst (λ (s : Standing). CanEnter s rest) (sym is)
          (can_enter now (scope_of scope) rest (subst (CanEnter now) here e.can));
    }

-- variables from one on, of which the first are there
pub variables_step : (fs next whole : List Affine) (f : Affine) (n from step count : ℕ) → step < count
    → fs ++ variables n (from + step) (count - step) ≡ whole → f ≡ variable n (from + step) → next ≡ fs ++ f ∷ []
    → next ++ variables n (from + (step + 1)) (count - (step + 1)) ≡ whole
variables_step fs next whole f n from step count h so_far is pushed =
    let rest = variables n (from + (step + 1)) (count - (step + 1)) in
    let e : count - step ≡ suc (count - (step + 1)) = omega arith in
    let g : from + step + 1 ≡ from + (step + 1) = omega arith in
    let here : variables n (from + step) (count - step) ≡ variable n (from + step) ∷ rest =
    ap (variables n (from + step)) e ∙ ap (λ k. variable n (from + step) ∷ variables n k (count - (step + 1))) g in
    ap (λ (gs : List Affine). gs ++ rest) (pushed ∙ ap (λ (h : Affine). fs ++ h ∷ []) is)
    ∙ (append_assoc fs (variable n (from + step) ∷ []) rest
    ∙ (ap (λ (gs : List Affine). fs ++ gs) (sym here) ∙ so_far))
