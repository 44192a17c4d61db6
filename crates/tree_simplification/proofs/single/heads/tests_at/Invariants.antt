use Rattle.tree_simplification.proofs.Common.{map, take, test_of, AreTestsFor}
use Rattle.tree_simplification.proofs.single.heads.tests_at.Given as goal

abbrev pub invariant-loop-test : goal.invariant-loop-test
invariant-loop-test l =
    AreTestsFor l.variables l.forms (map test_of (take l.test-index l.tests)) (map test_of l.all.items)
