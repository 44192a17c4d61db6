use Rattle.tree_simplification.proofs.Common.{◌≡◌, ◌+◌, List, drop, map, All, subst, sym, All-head, All-tail}
use Rattle.tree_simplification.proofs.Common.{IfOk-weaker, variables_of, form_in, test_of, TrimsTests, context_of}
use Rattle.loop_tree.specs.Tree.{Test}
use Rattle.loop_tree.specs.declared.tree.Test.{Test as CodeTest}
use Rattle.tree_simplification.proofs.RemainingParts.{test_gone}
use Rattle.tree_simplification.proofs.trimming.first_test_goes.Goals as goal

pub is_implied_test-requires-clause-others : goal.is_implied_test-requires-clause-others
is_implied_test-requires-clause-others c =
    let old = c.args.context.now in
    let P : Test → Type 0 = λ test. variables_of (form_in test) ≡ old.loops + old.parameters in
    All-tail P (test_of c.in-Some.test.now) (map test_of c.in-Some.rest.now)
    (subst (λ (ts : List CodeTest). All P (map test_of ts)) c.in-Some.ensures.cases.0 c.requires.over)

pub is_implied_test-requires-clause-test : goal.is_implied_test-requires-clause-test
is_implied_test-requires-clause-test c =
    let old = c.args.context.now in
    let P : Test → Type 0 = λ test. variables_of (form_in test) ≡ old.loops + old.parameters in
    All-head P (test_of c.in-Some.test.now) (map test_of c.in-Some.rest.now)
    (subst (λ (ts : List CodeTest). All P (map test_of ts)) c.in-Some.ensures.cases.0 c.requires.over)

pub returns-in-Some : goal.returns-in-Some
returns-in-Some c =
    let context = context_of c.args.context.now in
    IfOk-weaker c.is_implied_test.result _ _ (λ b implies found.
    subst (λ (ts : List CodeTest). TrimsTests context (map test_of ts) (map test_of (drop 1 ts)))
    (sym c.in-Some.ensures.cases.0)
    (test_gone context (test_of c.in-Some.test.now) (map test_of c.in-Some.rest.now) (implies found)))
    c.is_implied_test.ensures
