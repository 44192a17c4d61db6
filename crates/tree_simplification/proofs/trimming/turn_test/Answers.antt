use Rattle.tree_simplification.proofs.Common.{List, [], ◌∷◌, ◌++◌, drop, map, ap, subst, sym, ◌∙◌, map-append}
use Rattle.tree_simplification.proofs.Common.{on_ok_weaker, test_of, TrimsTests, context_of}
use Rattle.loop_tree.specs.Tree.{Test}
use Rattle.loop_tree.specs.declared.tree.Test.{Test as CodeTest}
use Rattle.tree_simplification.proofs.RemainingParts.{first_and_rest, test_kept}
use Rattle.tree_simplification.proofs.trimming.turn_test.Goals as goal

pub returns-else-goes-clause-tests : goal.returns-else-goes-clause-tests
returns-else-goes-clause-tests c =
    let context = context_of c.args.context.now in
    let test = c.remove-test.result in
    let old = c.args.left.now.items in
    let rest = drop 1 old in
    let whole = ap (map test_of) (first_and_rest old test c.remove-test.ensures.value c.requires.some) in
    let kept : TrimsTests context (map test_of old) (map test_of rest ++ test_of test ∷ []) =
    subst (λ (ts : List Test). TrimsTests context ts (map test_of rest ++ test_of test ∷ [])) (sym whole)
    (test_kept context (test_of test) (map test_of rest)) in
    on_ok_weaker c.push.result (λ pushed. subst (λ (ts : List Test). TrimsTests context (map test_of old) ts)
    (sym (ap (map test_of) (pushed ∙ ap (λ (ts : List CodeTest). ts ++ test ∷ []) c.remove-test.ensures.items)
    ∙ map-append test_of rest (test ∷ []))) kept) c.push.ensures.pushed
