use Rattle.scop_syntax.proofs.Common.{◌≡◌, ◌++◌, map, drop}
use Rattle.scop_syntax.specs.View.{test_of as comparison_of}
use Rattle.loop_tree.specs.Source.{test_over}
use Rattle.loop_tree.specs.View.{test_of}
use Rattle.loop_tree.proofs.source.tests_at.Given as goal

abbrev pub invariant-loop-test : goal.invariant-loop-test
invariant-loop-test l =
    map test_of l.composed.items ++ map (test_over l.variables l.forms) (map comparison_of (drop l.test-index l.tests))
    ≡ map (test_over l.variables l.forms) (map comparison_of l.tests)
