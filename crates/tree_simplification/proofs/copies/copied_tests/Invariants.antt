use Rattle.tree_simplification.proofs.Common.{◌≡◌, ◌++◌, drop, map, test_of}
use Rattle.tree_simplification.proofs.copies.copied_tests.Given as goal

abbrev pub invariant-loop-test : goal.invariant-loop-test
invariant-loop-test l = map test_of l.out.items ++ map test_of (drop l.test-index l.tests) ≡ map test_of l.tests
