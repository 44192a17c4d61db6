use Rattle.scop_syntax.proofs.Common.{◌≡◌, drop, map, test_of}
use Rattle.scop_syntax.specs.Walk.{all_hold as tests_hold}
use Rattle.scop_meaning.proofs.guards.all_hold.Given as goal

abbrev pub invariant-loop-test : goal.invariant-loop-test
invariant-loop-test l =
    tests_hold (map test_of (drop l.test-index l.tests)) l.point ≡ tests_hold (map test_of l.tests) l.point
