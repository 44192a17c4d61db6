use Rattle.tree_simplification.proofs.Common.{◌≡◌, ap, ◌∙◌, sym, subst, map, ◌++◌, List, All, ◌+◌, Affine, variables_of}
use Rattle.tree_simplification.proofs.Common.{test_of, tests_rows, context_of}
use Rattle.tree_simplification.proofs.Contexts.{sized_tested}
use Rattle.tree_simplification.proofs.entering.tested.Goals as goal

pub invariant_of-result : goal.invariant_of-result
invariant_of-result c =
    let old = c.args.context.now in
    let tests = map test_of c.args.tests.now in
    let rows : c.push_tests.new.rows.items ≡ old.rows.items ++ tests_rows tests =
    c.in_ok-push_tests.ensures
    ∙ ap (λ (rs : List Affine). rs ++ tests_rows tests) (c.in_ok-rows.ensures ∙ c.deref.ensures.value) in
    record {
      sized = subst (λ (rs : List Affine). All (λ f. variables_of f ≡ old.loops + old.parameters) rs) (sym rows)
          (sized_tested (context_of old) tests old.sized c.requires);
    }
