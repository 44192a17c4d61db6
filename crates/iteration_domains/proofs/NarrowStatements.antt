-- The forms of a kernel's statements are over their variables, and their numbers lie far within 128 bits.
use Rattle.scop_syntax.proofs.Common.{◌≡◌, ℕ, ◌+◌, ◌*◌, ◌^◌, ◌≤◌, List, [], ◌∷◌, length, map, ap, subst, sym, ◌∙◌, refl}
use Rattle.scop_syntax.proofs.Common.{arith, length-append, All, All-nil, All-cons, All-head, All-tail, All-append}
use Rattle.scop_syntax.proofs.Common.{Affine, composed, accesses, AreScopes, IsAccess, IsComparison, IsKernel, IsPlaced}
use Rattle.scop_syntax.proofs.Common.{ranks_of, test_form, In, Placed, Program, Scope, loops_in, round, statements_of}
use Rattle.scop_syntax.proofs.Common.{under, Access, Test, at_least, equal, in_map_from}
use Rattle.integer_sets.specs.Parts.{variables_of}
use Rattle.iteration_domains.specs.Constraints.{equalities_in, rows_in}
use Rattle.iteration_domains.specs.Model.{Modelled, model_of, modelled}
use Rattle.iteration_domains.specs.Rows.{composed_test, iterator, parameter_forms, point_forms, rows_from, variable}
use Rattle.iteration_domains.specs.Rows.{within_loop}
use Rattle.iteration_domains.specs.Sizes.{IsNarrow, forms_size, grown}
use Rattle.iteration_domains.proofs.Points.{equalities_in-append, rows_in-append}
use Rattle.iteration_domains.proofs.Sizes.{size-composed, size-variable, size-variables, sizes-within}
use Rattle.iteration_domains.proofs.Surroundings.{grown_five, grown_more, grown_up, length-composed, length-variable}
use Rattle.iteration_domains.proofs.Surroundings.{length-variables, sized-variables, sized-within}
use Rattle.iteration_domains.proofs.TreeStatements.{forms_are, narrow_accesses, statement_accesses}

-- both lists of some comparisons
abbrev AreNarrow : ℕ → List Test → Type 0
AreNarrow n tests = All (IsNarrow n) (equalities_in tests) × All (IsNarrow n) (rows_in tests)

narrow_tests : (n : ℕ) (forms : List Affine) (tests : List Test) → All (λ f. variables_of f ≡ n) forms
    → All (λ test. IsComparison (length forms) (test_form test)) tests → forms_size forms ≤ 2 ^ 40
    → AreNarrow n (map (composed_test n forms) tests)
narrow_tests n forms [] sized all few = (All-nil (IsNarrow n), All-nil (IsNarrow n))
narrow_tests n forms (at_least f ∷ tests) sized all few =
    let P : Test → Type 0 = λ test. IsComparison (length forms) (test_form test) in
    let c = size-composed (length forms) 32 (2 ^ 21 + 1) n forms f (All-head P (at_least f) tests all) in
    let r = narrow_tests n forms tests sized (All-tail P (at_least f) tests all) few in (
      r.0,
      All-cons (IsNarrow n) (composed f forms n) (rows_in (map (composed_test n forms) tests))
          (record { variables = length-composed n f forms sized; numbers = omega arith }) r.1,
    )
narrow_tests n forms (equal f ∷ tests) sized all few =
    let P : Test → Type 0 = λ test. IsComparison (length forms) (test_form test) in
    let c = size-composed (length forms) 32 (2 ^ 21 + 1) n forms f (All-head P (equal f) tests all) in
    let r = narrow_tests n forms tests sized (All-tail P (equal f) tests all) few in (
      All-cons (IsNarrow n) (composed f forms n) (equalities_in (map (composed_test n forms) tests))
          (record { variables = length-composed n f forms sized; numbers = omega arith }) r.0,
      r.1,
    )

narrow_rows : (scopes : List Scope) (n j : ℕ) (forms : List Affine) → All (λ f. variables_of f ≡ n) forms
    → AreScopes (length forms) scopes → grown (loops_in scopes) (forms_size forms) ≤ 2 ^ 40
    → AreNarrow n (rows_from n j scopes forms)
narrow_rows [] n j forms sized is few = (All-nil (IsNarrow n), All-nil (IsNarrow n))
narrow_rows (under tests ∷ scopes) n j forms sized is few =
    let here = map (composed_test n forms) tests in
    let there = rows_from n j scopes forms in
    let u = grown_up (loops_in scopes) (forms_size forms) in
    let t = narrow_tests n forms tests sized is.0 (omega arith) in
    let r = narrow_rows scopes n j forms sized is.1 few in (
      subst (All (IsNarrow n)) (sym (equalities_in-append here there))
          (All-append (IsNarrow n) (equalities_in here) (equalities_in there) t.0 r.0),
      subst (All (IsNarrow n)) (sym (rows_in-append here there))
          (All-append (IsNarrow n) (rows_in here) (rows_in there) t.1 r.1),
    )
narrow_rows (round head ∷ scopes) n j forms sized is few =
    let inner = within_loop n j head forms in
    let w = sized-within n j head forms sized in
    let l = length-append forms (iterator n j head forms ∷ []) in
    let b = sizes-within (length forms) n j head forms is.0.first is.0.stride in
    let m = grown_more (loops_in scopes) (forms_size inner) (17 * forms_size forms + 2 ^ 21) b in
    let u = grown_up (loops_in scopes) (forms_size inner) in
    let v = size-variable n j in
    let c = size-composed (length forms + 1) 16 (2 ^ 20 + 1) n inner head.condition is.0.condition in
    let r = narrow_rows scopes n (j + 1) inner w (subst (λ k. AreScopes k scopes) (sym l) is.1) (omega arith) in
    let rest = rows_in (rows_from n (j + 1) scopes inner) in (
      r.0,
      All-cons (IsNarrow n) (variable n j) (composed head.condition inner n ∷ rest)
          (record { variables = length-variable n j; numbers = omega arith })
          (All-cons (IsNarrow n) (composed head.condition inner n) rest
          (record { variables = length-composed n head.condition inner w; numbers = omega arith }) r.1),
    )

-- a statement of a kernel with m parameters
pub record IsNarrowStatement (m : ℕ) (s : Modelled) : Type 0 where
  pub few : s.domain.dimensions ≤ 5
  pub parameters : s.domain.parameters ≡ m
  pub equalities : All (IsNarrow (s.domain.dimensions + m)) s.domain.equalities
  pub rows : All (IsNarrow (s.domain.dimensions + m)) s.domain.rows
  pub accesses : All (λ (a : Access). All (IsNarrow (s.domain.dimensions + m)) a.subscripts) s.accesses

pub placed_narrow : (ranks : List ℕ) (m : ℕ) (p : Placed) → m ≤ 4 → IsPlaced ranks m p
    → IsNarrowStatement m (modelled m p)
placed_narrow ranks m p few is =
    let d = loops_in p.scopes in
    let n = d + m in
    let forms = parameter_forms m p in
    let long = length-variables n d m in
    let v = size-variables n d m in
    let sized = sized-variables n d m in
    let scopes = subst (λ k. AreScopes k p.scopes) (sym long) is.scopes in
    let loops = is.few_loops in
    let small = grown_five d (forms_size forms) loops (omega arith) in
    let rows = narrow_rows p.scopes n 0 forms sized scopes small in
    let point = forms_are p.scopes n 0 forms sized scopes small in
    let count : length (point_forms m p) ≡ m + d = point.count ∙ ap (λ k. k + d) long in
    record {
      few = loops;
      parameters = refl;
      equalities = rows.0;
      rows = rows.1;
      accesses = narrow_accesses ranks n (point_forms m p) (accesses p.body)
          (record { sized = point.sized; count = refl; small = point.small })
          (subst (λ k. All (IsAccess ranks k) (accesses p.body)) (sym count)
          (statement_accesses ranks (m + d) p.body is.body));
    }

-- a statement of a kernel's model
pub statement_narrow : (program : Program) (s : Modelled) → IsKernel program
    → ((p : Placed) → In p (statements_of program) → IsPlaced (ranks_of program) (length program.parameters) p)
    → In s (model_of program).statements → IsNarrowStatement (length program.parameters) s
statement_narrow program s is placed h =
    let m = length program.parameters in
    let p = in_map_from (modelled m) s (statements_of program) h in
    subst (IsNarrowStatement m) (sym p.2)
    (placed_narrow (ranks_of program) m p.0 is.few_parameters (placed p.0 p.1))
