use Rattle.tree_simplification.proofs.Common.{◌≡◌, ◌++◌, drop, map, test_of, tests_rows}
use Rattle.tree_simplification.proofs.rows.push_tests.Given as goal

abbrev pub invariant-loop-test : goal.invariant-loop-test
invariant-loop-test l =
    l.rows.items ++ tests_rows (map test_of (drop l.test-index l.tests))
    ≡ l.fn.rows.items ++ tests_rows (map test_of l.tests)
