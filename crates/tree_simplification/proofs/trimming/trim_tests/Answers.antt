use Rattle.tree_simplification.proofs.Common.{◌≡◌, ◌+◌, map, arith, variables_of, form_in, test_of, context_of}
use Rattle.tree_simplification.proofs.RemainingParts.{all_among, tests_on, tests_stay}
use Rattle.tree_simplification.proofs.trimming.trim_tests.Goals as goal

pub loop-init : goal.loop-init
loop-init c =
    let e = c.len-count.ensures in
    (tests_stay (context_of c.args.context.now) (map test_of c.args.left.now.items), omega arith)

pub turn_test-requires-clause-some : goal.turn_test-requires-clause-some
turn_test-requires-clause-some c =
    let i = c.loop.invariant.1 in
    omega (arith, i)

pub turn_test-requires-clause-over : goal.turn_test-requires-clause-over
turn_test-requires-clause-over c =
    let old = c.args.context.now in
    all_among (λ test. variables_of (form_in test) ≡ old.loops + old.parameters) (map test_of c.loop.left.items)
    (map test_of c.args.left.now.items) c.loop.invariant.0.parts c.requires.over

pub loop-preserved : goal.loop-preserved
loop-preserved c =
    let i = c.loop.invariant.1 in
    let k = c.in_ok-turn_test.ensures.count in (
      tests_on (context_of c.args.context.now) (map test_of c.args.left.now.items) (map test_of c.loop.left.items)
          (map test_of c.turn_test.new.left.items) c.loop.invariant.0 c.in_ok-turn_test.ensures.tests,
      omega (arith, i, k),
    )
