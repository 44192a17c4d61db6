use Rattle.scop_syntax.proofs.Common.{◌≡◌, ◌++◌, map, drop}
use Rattle.loop_tree.specs.steps.Chain.{values_at}
use Rattle.loop_tree.specs.Fits.{TestsFit}
use Rattle.loop_tree.specs.Marks.{AreTests}
use Rattle.loop_tree.specs.View.{test_of}
use Rattle.loop_tree.specs.Walk.{all_hold}
use Rattle.loop_tree.proofs.ranges.hold_at.Given as goal

abbrev pub invariant-loop-test : goal.invariant-loop-test
invariant-loop-test l =
    AreTests (map test_of (drop l.test-index l.tests))
    × TestsFit (map test_of (drop l.test-index l.tests)) (values_at l.point ++ l.params)
    × (all_hold (map test_of (drop l.test-index l.tests)) (values_at l.point ++ l.params)
    ≡ all_hold (map test_of l.tests) (values_at l.point ++ l.params))
