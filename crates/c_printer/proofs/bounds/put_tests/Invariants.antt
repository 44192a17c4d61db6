-- What is put so far, and the tests to come, are all of them.
use Rattle.scop_syntax.proofs.Common.{◌≡◌, ◌++◌, drop, map, true}
use Rattle.loop_tree.specs.View.{test_of}
use Rattle.c_printer.specs.Nodes.{tests_text}
use Rattle.c_printer.proofs.bounds.put_tests.Given as goal

abbrev pub invariant-loop-test : goal.invariant-loop-test
invariant-loop-test l = l.out.items
    ++ tests_text l.first (map (λ n. n.items) l.names) l.loops (map test_of (drop l.test-index l.tests))
    ≡ l.fn.out.items ++ tests_text true (map (λ n. n.items) l.names) l.loops (map test_of l.tests)
