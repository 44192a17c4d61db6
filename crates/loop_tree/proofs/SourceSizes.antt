-- The loop tree of a source is over the variables round each node, and its numbers fit for parameters within 2^16.
use Rattle.scop_syntax.proofs.Common.{◌≡◌, ℕ, zero, suc, ◌+◌, ◌*◌, ◌^◌, ◌≤◌, true, ℤ, pos, List, [], ◌∷◌, ◌++◌, map}
use Rattle.scop_syntax.proofs.Common.{length, ap, subst, sym, ◌∙◌, refl, arith, length-append, mul-le-mul, ◌≤ℤ◌, All}
use Rattle.scop_syntax.proofs.Common.{unsigned_abs, le_z, ints, All-nil, All-cons, All-head, All-tail, All-append}
use Rattle.scop_syntax.proofs.Common.{Affine, value_of, composed, length-zeros, Head, statement, AreAtMost, IsForm}
use Rattle.scop_syntax.proofs.Common.{IsComparison, IsHead, AreScopes, test_form, loops_in, point_of, Runs, AllHold}
use Rattle.scop_syntax.proofs.Common.{statements_in, size, both, holds_le_z}
use Rattle.iteration_domains.specs.Parts.{variables_of}
use Rattle.scop_syntax.specs.Tree.{Test as Comparison, at_least as is_up, equal as is_zero, Tree as Item}
use Rattle.scop_syntax.specs.Tree.{loop as repeated, guard as guarded, Trees as Items, none as nothing}
use Rattle.scop_syntax.specs.Tree.{more as followed}
use Rattle.scop_syntax.specs.Walk.{holds as comparison_holds, all_hold as comparisons_hold}
use Rattle.scop_syntax.proofs.Sizes.{size-joined}
use Rattle.scop_syntax.proofs.Sizes.{turns_within as turns_small}
use Rattle.iteration_domains.specs.Rows.{variable, variables}
use Rattle.iteration_domains.specs.Path.{Path, CanModel}
use Rattle.iteration_domains.specs.Sizes.{form_size}
use Rattle.iteration_domains.specs.Sizes.{size as numbers_size}
use Rattle.iteration_domains.proofs.Sizes.{size-composed, size-zeros, size-variable, sizes-append}
use Rattle.iteration_domains.proofs.Surroundings.{length-composed, sized-variables}
use Rattle.iteration_domains.proofs.TreeStatements.{can_first, can_rest, can_loop, can_guard, point_forms_are}
use Rattle.loop_tree.specs.Tree.{only, at_least, equal, Test}
use Rattle.loop_tree.specs.Scans.{Within}
use Rattle.loop_tree.specs.Shape.{IsOver, TreeIsOver, TreesAreOver}
use Rattle.loop_tree.specs.Fits.{FormFits, TestsFit, FormsFit, form_in, Fits, FitsAll}
use Rattle.loop_tree.specs.Source.{variables_at, point_at, in_loop, in_guard, first_turn, last_turn, test_over, source}
use Rattle.loop_tree.specs.Source.{sources}
use Rattle.loop_tree.proofs.Places.{runs_loop, runs_guard, values_at, head_at}
use Rattle.loop_tree.proofs.Places.{turns_within, turns_guarded}
use Rattle.loop_tree.proofs.Turns.{holds_until}
use Rattle.loop_tree.proofs.Sources.{starts_at, ends_at, all_hold_over}
use Rattle.loop_tree.proofs.Fits.{form_fits}

-- over the variables
pub first_over : (n : ℕ) (forms : List Affine) (head : Head) → All (λ f. variables_of f ≡ n) forms
    → All (λ f. variables_of f ≡ n) (forms ++ composed head.first forms n ∷ [])
first_over n forms head sized =
    let P : Affine → Type 0 = λ f. variables_of f ≡ n in
    let first = composed head.first forms n in
    All-append P forms (first ∷ []) sized (All-cons P first [] (length-composed n head.first forms sized) (All-nil P))

tests_over : (n : ℕ) (forms : List Affine) (tests : List Comparison) → All (λ f. variables_of f ≡ n) forms
    → All (λ test. IsOver n (form_in test)) (map (test_over n forms) tests)
tests_over n forms [] sized = All-nil (λ (test : Test). IsOver n (form_in test))
tests_over n forms (is_up f ∷ tests) sized =
    All-cons (λ (test : Test). IsOver n (form_in test)) (at_least (composed f forms n)) (map (test_over n forms) tests)
    (length-composed n f forms sized) (tests_over n forms tests sized)
tests_over n forms (is_zero f ∷ tests) sized =
    All-cons (λ (test : Test). IsOver n (form_in test)) (equal (composed f forms n)) (map (test_over n forms) tests)
    (length-composed n f forms sized) (tests_over n forms tests sized)

mutual
  pub source_over : (path : Path) (t : Item) (k : ℕ) → CanModel path (followed t nothing)
      → TreeIsOver (variables_at path) (source path t k)
  source_over path (repeated head body) k can =
      let n = variables_at path in
      let are = point_forms_are path (followed (repeated head body) nothing) can in
      let one = length-append path.loops (k ∷ []) in
      let e : variables_at (in_loop path head k) ≡ suc n = omega arith in (
        length-zeros n,
        length-composed n head.condition (point_at path ++ composed head.first (point_at path) n ∷ [])
            (first_over n (point_at path) head are.sized),
        subst (λ m. TreesAreOver m (sources (in_loop path head k) body k)) e
            (sources_over (in_loop path head k) body k (can_loop path head body k can)),
      )
  source_over path (guarded tests body) k can =
      let are = point_forms_are path (followed (guarded tests body) nothing) can in (
        tests_over (variables_at path) (point_at path) tests are.sized,
        sources_over (in_guard path tests) body k (can_guard path tests body can),
      )
  source_over path (statement s) k can = sized-variables (variables_at path) 0 (length path.loops)

  pub sources_over : (path : Path) (ts : Items) (k : ℕ) → CanModel path ts
      → TreesAreOver (variables_at path) (sources path ts k)
  sources_over path nothing k can = tt
  sources_over path (followed t ts) k can = (
    source_over path t k (can_first path t ts can),
    sources_over path ts (k + statements_in t) (can_rest path t ts can),
  )

-- how large the numbers are
pub at_most : (k : ℕ) (xs : List ℤ) → numbers_size xs ≤ k → AreAtMost k xs
at_most k [] h = tt
at_most k (x ∷ xs) h = (omega arith, at_most k xs (omega arith))

small_form : (k : ℕ) (f : Affine) → form_size f ≤ k → IsForm (length f.coefficients) k k f
small_form k f h =
    record { entries = refl; coefficients = at_most k f.coefficients (omega arith); constant = omega arith }

pub entries_size : (k : ℕ) (xs : List ℤ) → AreAtMost k xs → size xs ≤ length xs * k
entries_size k [] h = omega arith
entries_size k (x ∷ xs) h =
    let r = entries_size k xs h.1 in
    let a = h.0 in
    let e : suc (length xs) * k ≡ k + length xs * k = grind arith in
    omega (arith, e)

last_at_most : (k : ℕ) (xs : List ℤ) (x : ℤ) → AreAtMost k (xs ++ x ∷ []) → unsigned_abs x ≤ k
last_at_most k [] x h = h.0
last_at_most k (y ∷ xs) x h = last_at_most k xs x h.1

-- at the turns of a step with parameters within 2^16 the point of a form is small
pub record IsNear (path : Path) (params outer : List ℤ) : Type 0 where
  pub count : length params ≡ path.parameters
  pub turns : length outer ≡ loops_in path.scopes
  pub small : size params ≤ 2 ^ 18
  pub runs : Runs path.scopes params outer

near_turns : (path : Path) (ts : Items) (params outer : List ℤ) → CanModel path ts → IsNear path params outer
    → AreAtMost (2 ^ 45) outer
near_turns path ts params outer can near =
    let few = can.few in
    turns_small path.scopes params outer (subst (λ n. AreScopes n path.scopes) (sym near.count) can.scopes) near.runs
    (omega arith) near.small

near_point : (path : Path) (ts : Items) (params outer : List ℤ) → CanModel path ts → IsNear path params outer
    → size (outer ++ params) ≤ 2 ^ 49
near_point path ts params outer can near =
    let j = size-joined outer params in
    let s = entries_size (2 ^ 45) outer (near_turns path ts params outer can near) in
    let few = can.few in
    let l = near.turns in
    let p = near.small in
    let five : length outer ≤ 5 = omega arith in
    let same : 2 ^ 45 ≤ 2 ^ 45 = omega arith in
    let most : length outer * (2 ^ 45) ≤ 5 * (2 ^ 45) = mul-le-mul five same in
    omega (arith, j, s, p, most)

near_form : (path : Path) (ts : Items) (params outer : List ℤ) (f : Affine) → CanModel path ts
    → IsNear path params outer → form_size f ≤ 2 ^ 50 → FormFits f (outer ++ params)
near_form path ts params outer f can near h =
    let s = near_point path ts params outer can near in
    form_fits (2 ^ 50) f (outer ++ params) (small_form (2 ^ 50) f h) (omega (arith, s))

near_tests : (path : Path) (ts : Items) (params outer : List ℤ) (tests : List Comparison) → CanModel path ts
    → IsNear path params outer
    → All (λ test. IsComparison (path.parameters + loops_in path.scopes) (test_form test)) tests
    → TestsFit (map (test_over (variables_at path) (point_at path)) tests) (outer ++ params)
near_tests path ts params outer [] can near all = tt
near_tests path ts params outer (is_up f ∷ tests) can near all =
    let P : Comparison → Type 0 = λ test. IsComparison (path.parameters + loops_in path.scopes) (test_form test) in
    let n = path.parameters + loops_in path.scopes in
    let are = point_forms_are path ts can in
    let low = are.small in
    let s = size-composed n 32 (2 ^ 21 + 1) (variables_at path) (point_at path) f (All-head P (is_up f) tests all) in (
      near_form path ts params outer (composed f (point_at path) (variables_at path)) can near (omega (arith, s, low)),
      near_tests path ts params outer tests can near (All-tail P (is_up f) tests all),
    )
near_tests path ts params outer (is_zero f ∷ tests) can near all =
    let P : Comparison → Type 0 = λ test. IsComparison (path.parameters + loops_in path.scopes) (test_form test) in
    let n = path.parameters + loops_in path.scopes in
    let are = point_forms_are path ts can in
    let low = are.small in
    let is = All-head P (is_zero f) tests all in
    let s = size-composed n 32 (2 ^ 21 + 1) (variables_at path) (point_at path) f is in (
      near_form path ts params outer (composed f (point_at path) (variables_at path)) can near (omega (arith, s, low)),
      near_tests path ts params outer tests can near (All-tail P (is_zero f) tests all),
    )

-- the form of a loop's last turn
pub last_small : (path : Path) (ts : Items) (head : Head) → CanModel path ts
    → IsHead (path.parameters + loops_in path.scopes) head
    → form_size (last_turn (variables_at path) (point_at path) head).form ≤ 2 ^ 50
last_small path ts head can is =
    let n = variables_at path in
    let m = path.parameters + loops_in path.scopes in
    let forms = point_at path in
    let first = composed head.first forms n in
    let are = point_forms_are path ts can in
    let low = are.small in
    let f = size-composed m 16 (2 ^ 20) n forms head.first is.first in
    let a = sizes-append forms first in
    let c = size-composed (m + 1) 16 (2 ^ 20 + 1) n (forms ++ first ∷ []) head.condition is.condition in
    omega (arith, low, f, a, c)

first_small : (n : ℕ) → form_size (first_turn n).form ≤ 2 ^ 50
first_small n = let z = size-zeros n in omega (arith, z)

units_fit : (path : Path) (ts : Items) (params outer : List ℤ) (n j m : ℕ) → CanModel path ts
    → IsNear path params outer → FormsFit (variables n j m) (outer ++ params)
units_fit path ts params outer n j zero can near = tt
units_fit path ts params outer n j (suc m) can near =
    let u = size-variable n j in (
      near_form path ts params outer (variable n j) can near (omega (arith, u)),
      units_fit path ts params outer n (j + 1) m can near,
    )

tests_hold_from : (tests : List Comparison) (point : List ℤ) → comparisons_hold tests point ≡ true
    → AllHold tests point
tests_hold_from [] point h = tt
tests_hold_from (is_up f ∷ tests) point h =
    let b = both (comparison_holds (is_up f) point) (comparisons_hold tests point) h in
    (holds_le_z (pos 0) (value_of f point) b.0, tests_hold_from tests point b.1)
tests_hold_from (is_zero f ∷ tests) point h =
    let b = both (comparison_holds (is_zero f) point) (comparisons_hold tests point) h in
    let z = value_of f point in
    let c = both (le_z (pos 0) z) (le_z z (pos 0)) b.0 in
    let low : pos 0 ≤ℤ z = holds_le_z (pos 0) z c.0 in
    let high : z ≤ℤ pos 0 = holds_le_z z (pos 0) c.1 in
    (omega (arith, ints), tests_hold_from tests point b.1)

-- at a turn of a loop
near_loop : (path : Path) (head : Head) (body : Items) (k : ℕ) (params outer : List ℤ) (y : ℤ)
    → CanModel path (followed (repeated head body) nothing) → IsNear path params outer
    → Within (only (first_turn (variables_at path))) (only (last_turn (variables_at path) (point_at path) head))
    (outer ++ params) y
    → IsNear (in_loop path head k) params (outer ++ y ∷ [])
near_loop path head body k params outer y can near w =
    let p = point_of path.scopes params outer in
    let ts = followed (repeated head body) nothing in
    let v = values_at path ts params outer can near.count near.turns in
    let is = head_at path head body params outer can near.count near.turns in
    let low : pos 0 ≤ℤ y = subst (λ z. z ≤ℤ y) (starts_at (variables_at path) (outer ++ params)) w.0 in
    let high = subst (λ z. y ≤ℤ z) (ends_at (variables_at path) (point_at path) head (outer ++ params) p v) w.1 in
    record {
      count = near.count;
      turns = turns_within path head body k outer y can near.turns;
      small = near.small;
      runs = runs_loop path.scopes head params outer y near.runs low ((holds_until head p is y).0 high);
    }

-- within a guard
near_guard : (path : Path) (tests : List Comparison) (body : Items) (params outer : List ℤ)
    → CanModel path (followed (guarded tests body) nothing) → IsNear path params outer
    → AllHold tests (point_of path.scopes params outer) → IsNear (in_guard path tests) params outer
near_guard path tests body params outer can near holds =
    record {
      count = near.count;
      turns = turns_guarded path tests body outer can near.turns;
      small = near.small;
      runs = runs_guard path.scopes tests params outer near.runs holds;
    }

mutual
  pub source_fits : (path : Path) (t : Item) (k : ℕ) (params outer : List ℤ) → CanModel path (followed t nothing)
      → IsNear path params outer → Fits (source path t k) params outer
  source_fits path (repeated head body) k params outer can near =
      let ts = followed (repeated head body) nothing in
      let inner = in_loop path head k in
      let body_can = can_loop path head body k can in (
        near_form path ts params outer (first_turn (variables_at path)).form can near (first_small (variables_at path)),
        near_form path ts params outer (last_turn (variables_at path) (point_at path) head).form can near
            (last_small path ts head can can.trees.0.1),
        (λ y w.
            let within = near_loop path head body k params outer y can near w in
            let last = last_at_most (2 ^ 45) outer y (near_turns inner body params (outer ++ y ∷ []) body_can within) in
            (omega (arith, last), sources_fit inner body k params (outer ++ y ∷ []) body_can within)),
      )
  source_fits path (guarded tests body) k params outer can near =
      let ts = followed (guarded tests body) nothing in
      let p = point_of path.scopes params outer in
      let n = variables_at path in
      let v = values_at path ts params outer can near.count near.turns in (
        near_tests path ts params outer tests can near can.trees.0.2,
        (λ holds.
            let here = sym (all_hold_over n (point_at path) tests (outer ++ params) ∙ ap (comparisons_hold tests) v)
            ∙ holds in
            sources_fit (in_guard path tests) body k params outer (can_guard path tests body can)
            (near_guard path tests body params outer can near (tests_hold_from tests p here))),
      )
  source_fits path (statement s) k params outer can near =
      units_fit path (followed (statement s) nothing) params outer (variables_at path) 0 (length path.loops) can near

  pub sources_fit : (path : Path) (ts : Items) (k : ℕ) (params outer : List ℤ) → CanModel path ts
      → IsNear path params outer → FitsAll (sources path ts k) params outer
  sources_fit path nothing k params outer can near = tt
  sources_fit path (followed t ts) k params outer can near = (
    source_fits path t k params outer (can_first path t ts can) near,
    sources_fit path ts (k + statements_in t) params outer (can_rest path t ts can) near,
  )
