use Rattle.scop_syntax.proofs.Common.{drop, length, map}
use Rattle.loop_tree.specs.steps.Chain.{values_in}
use Rattle.loop_tree.specs.steps.Counting.{TestsAreFree}
use Rattle.loop_tree.specs.View.{test_of}
use Rattle.loop_tree.proofs.counting.tests_are_free.Given as goal

abbrev pub invariant-loop-test : goal.invariant-loop-test
invariant-loop-test l =
    TestsAreFree (length (values_in l.round)) l.inner (map test_of (drop l.test-index l.tests))
    → TestsAreFree (length (values_in l.round)) l.inner (map test_of l.tests)
