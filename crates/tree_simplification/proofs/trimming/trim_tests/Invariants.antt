use Rattle.tree_simplification.proofs.Common.{◌+◌, ◌≤◌, length, map, test_of, TrimsTests, context_of}
use Rattle.tree_simplification.proofs.trimming.trim_tests.Given as goal

abbrev pub invariant-loop : goal.invariant-loop
invariant-loop l =
    TrimsTests (context_of l.fn.context) (map test_of l.fn.left.items) (map test_of l.left.items)
    × (l.count ≤ length l.left.items + l.counter)
