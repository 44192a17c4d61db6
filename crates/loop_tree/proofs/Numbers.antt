-- The numbers of a source's loop tree lie within 2^45.
use Rattle.scop_syntax.proofs.Common.{ℕ, zero, suc, ◌+◌, ◌*◌, ◌^◌, ◌≤◌, List, [], ◌∷◌, ◌++◌, map, length, subst, sym}
use Rattle.scop_syntax.proofs.Common.{arith, length-append, All, ints, All-nil, All-cons, All-head, All-tail, Affine}
use Rattle.scop_syntax.proofs.Common.{composed, Head, statement, IsComparison, AreScopes, test_form, Scope, round}
use Rattle.scop_syntax.proofs.Common.{under, loops_in, statements_in}
use Rattle.scop_syntax.specs.Tree.{Test as Comparison, at_least as is_up, equal as is_zero, Tree as Item}
use Rattle.scop_syntax.specs.Tree.{loop as repeated, guard as guarded, Trees as Items, none as nothing}
use Rattle.scop_syntax.specs.Tree.{more as followed}
use Rattle.iteration_domains.specs.Rows.{variable, variables, iterator, within_loop, forms_from}
use Rattle.iteration_domains.specs.Path.{Path, CanModel}
use Rattle.iteration_domains.specs.Sizes.{form_size, forms_size, grown}
use Rattle.iteration_domains.proofs.Sizes.{size-composed, size-zeros, size-variable, size-variables, sizes-append}
use Rattle.iteration_domains.proofs.Sizes.{sizes-within}
use Rattle.iteration_domains.proofs.Surroundings.{grown_more, length-variables}
use Rattle.iteration_domains.proofs.TreeStatements.{can_first, can_rest, can_loop, can_guard}
use Rattle.loop_tree.specs.Tree.{at_least, equal}
use Rattle.loop_tree.specs.Shape.{IsUpTo, TestIsUpTo, TreeIsUpTo, TreesAreUpTo}
use Rattle.loop_tree.specs.Source.{variables_at, point_at, in_loop, in_guard, first_turn, last_turn, test_over, source}
use Rattle.loop_tree.specs.Source.{sources}
use Rattle.loop_tree.proofs.SourceSizes.{at_most}

up_to : (k : ℕ) (f : Affine) → form_size f ≤ k → IsUpTo k f
up_to k f h = (at_most k f.coefficients (omega arith), omega arith)

-- the forms of a point grow loop by loop
forms_grow : (scopes : List Scope) (n j : ℕ) (forms : List Affine) → AreScopes (length forms) scopes
    → forms_size (forms_from n j scopes forms) ≤ grown (loops_in scopes) (forms_size forms)
forms_grow [] n j forms is = omega arith
forms_grow (under tests ∷ scopes) n j forms is = forms_grow scopes n j forms is.1
forms_grow (round head ∷ scopes) n j forms is =
    let inner = within_loop n j head forms in
    let l = length-append forms (iterator n j head forms ∷ []) in
    let b = sizes-within (length forms) n j head forms is.0.first is.0.stride in
    let m = grown_more (loops_in scopes) (forms_size inner) (17 * forms_size forms + 2 ^ 21) b in
    let r = forms_grow scopes n (j + 1) inner (subst (λ k. AreScopes k scopes) (sym l) is.1) in
    omega arith

point_grows : (path : Path) (ts : Items) → CanModel path ts
    → forms_size (point_at path) ≤ grown (loops_in path.scopes) 4
point_grows path ts can =
    let n = variables_at path in
    let d = length path.loops in
    let m = path.parameters in
    let g = forms_grow path.scopes n 0 (variables n d m)
    (subst (λ k. AreScopes k path.scopes) (sym (length-variables n d m)) can.scopes) in
    let v = size-variables n d m in
    let few = can.parameters in
    let s = grown_more (loops_in path.scopes) (forms_size (variables n d m)) 4 (omega arith) in
    omega (arith, g, s)

within_five : (d : ℕ) → d ≤ 5 → grown d 4 ≤ 2 ^ 38
within_five zero few = omega arith
within_five (suc zero) few = omega arith
within_five (suc (suc zero)) few = omega arith
within_five (suc (suc (suc zero))) few = omega arith
within_five (suc (suc (suc (suc zero)))) few = omega arith
within_five (suc (suc (suc (suc (suc zero))))) few = omega arith
within_five (suc (suc (suc (suc (suc (suc d)))))) few = absurd (omega arith)

within_four : (d : ℕ) → d ≤ 4 → grown d 4 ≤ 2 ^ 34
within_four zero few = omega arith
within_four (suc zero) few = omega arith
within_four (suc (suc zero)) few = omega arith
within_four (suc (suc (suc zero))) few = omega arith
within_four (suc (suc (suc (suc zero)))) few = omega arith
within_four (suc (suc (suc (suc (suc d))))) few = absurd (omega arith)

-- a loop's condition at turn 0: at most four loops stand round the loop
last_up_to : (path : Path) (head : Head) (body : Items) → CanModel path (followed (repeated head body) nothing)
    → IsUpTo (2 ^ 45) (last_turn (variables_at path) (point_at path) head).form
last_up_to path head body can =
    let n = variables_at path in
    let m = path.parameters + loops_in path.scopes in
    let forms = point_at path in
    let first = composed head.first forms n in
    let is = can.trees.0.1 in
    let some = can.trees.0.0 in
    let few = can.few in
    let g = point_grows path (followed (repeated head body) nothing) can in
    let w = within_four (loops_in path.scopes) (omega arith) in
    let f = size-composed m 16 (2 ^ 20) n forms head.first is.first in
    let a = sizes-append forms first in
    let c = size-composed (m + 1) 16 (2 ^ 20 + 1) n (forms ++ first ∷ []) head.condition is.condition in
    up_to (2 ^ 45) (last_turn n forms head).form (omega (arith, g, w, f, a, c))

-- a comparison
test_up_to : (path : Path) (ts : Items) (f : Affine) → CanModel path ts
    → IsComparison (path.parameters + loops_in path.scopes) f
    → IsUpTo (2 ^ 45) (composed f (point_at path) (variables_at path))
test_up_to path ts f can is =
    let n = variables_at path in
    let m = path.parameters + loops_in path.scopes in
    let few = can.few in
    let g = point_grows path ts can in
    let w = within_five (loops_in path.scopes) (omega arith) in
    let s = size-composed m 32 (2 ^ 21 + 1) n (point_at path) f is in
    up_to (2 ^ 45) (composed f (point_at path) n) (omega (arith, g, w, s))

tests_up_to : (path : Path) (ts : Items) (tests : List Comparison) → CanModel path ts
    → All (λ test. IsComparison (path.parameters + loops_in path.scopes) (test_form test)) tests
    → All (TestIsUpTo (2 ^ 45)) (map (test_over (variables_at path) (point_at path)) tests)
tests_up_to path ts [] can all = All-nil (TestIsUpTo (2 ^ 45))
tests_up_to path ts (is_up f ∷ tests) can all =
    let P : Comparison → Type 0 = λ test. IsComparison (path.parameters + loops_in path.scopes) (test_form test) in
    let n = variables_at path in
    let forms = point_at path in
    All-cons (TestIsUpTo (2 ^ 45)) (at_least (composed f forms n)) (map (test_over n forms) tests)
    (test_up_to path ts f can (All-head P (is_up f) tests all))
    (tests_up_to path ts tests can (All-tail P (is_up f) tests all))
tests_up_to path ts (is_zero f ∷ tests) can all =
    let P : Comparison → Type 0 = λ test. IsComparison (path.parameters + loops_in path.scopes) (test_form test) in
    let n = variables_at path in
    let forms = point_at path in
    All-cons (TestIsUpTo (2 ^ 45)) (equal (composed f forms n)) (map (test_over n forms) tests)
    (test_up_to path ts f can (All-head P (is_zero f) tests all))
    (tests_up_to path ts tests can (All-tail P (is_zero f) tests all))

units_up_to : (n j m : ℕ) → All (IsUpTo (2 ^ 45)) (variables n j m)
units_up_to n j zero = All-nil (IsUpTo (2 ^ 45))
units_up_to n j (suc m) =
    let u = size-variable n j in
    All-cons (IsUpTo (2 ^ 45)) (variable n j) (variables n (j + 1) m)
    (up_to (2 ^ 45) (variable n j) (omega (arith, u))) (units_up_to n (j + 1) m)

mutual
  pub source_up_to : (path : Path) (t : Item) (k : ℕ) → CanModel path (followed t nothing)
      → TreeIsUpTo (2 ^ 45) (source path t k)
  source_up_to path (repeated head body) k can =
      let n = variables_at path in
      let z = size-zeros n in
      let stride = can.trees.0.1.stride in (
        (up_to (2 ^ 45) (first_turn n).form (omega (arith, z)), omega (arith, ints)),
        (last_up_to path head body can, omega (arith, ints)),
        sources_up_to (in_loop path head k) body k (can_loop path head body k can),
      )
  source_up_to path (guarded tests body) k can = (
    tests_up_to path (followed (guarded tests body) nothing) tests can can.trees.0.2,
    sources_up_to (in_guard path tests) body k (can_guard path tests body can),
  )
  source_up_to path (statement s) k can = units_up_to (variables_at path) 0 (length path.loops)

  pub sources_up_to : (path : Path) (ts : Items) (k : ℕ) → CanModel path ts
      → TreesAreUpTo (2 ^ 45) (sources path ts k)
  sources_up_to path nothing k can = tt
  sources_up_to path (followed t ts) k can = (
    source_up_to path t k (can_first path t ts can),
    sources_up_to path ts (k + statements_in t) (can_rest path t ts can),
  )
