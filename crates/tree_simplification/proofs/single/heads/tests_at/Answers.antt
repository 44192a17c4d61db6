use Rattle.tree_simplification.proofs.Common.{length, ◌^◌, form_in, IsOver, TestIsUpTo, test_of}
use Rattle.tree_simplification.proofs.Heads.{all_mapped, tests_next}
use Rattle.tree_simplification.proofs.single.heads.tests_at.Goals as goal

pub test_at-requires-clause-count : goal.test_at-requires-clause-count
test_at-requires-clause-count c =
    all_mapped (λ test. IsOver (length c.args.forms.now) (form_in test)) test_of c.args.tests.now c.loop-test.test-index
    c.test-item.result c.test-item.is c.loop-test-test.true c.requires.count

pub test_at-requires-clause-numbers : goal.test_at-requires-clause-numbers
test_at-requires-clause-numbers c =
    all_mapped (TestIsUpTo (2 ^ 40)) test_of c.args.tests.now c.loop-test.test-index c.test-item.result c.test-item.is
    c.loop-test-test.true c.requires.numbers

pub loop-test-preserved : goal.loop-test-preserved
loop-test-preserved c =
    tests_next c.args.variables c.args.forms.now c.args.tests.now c.loop-test.test-index c.test-item.result
    c.in_ok-test.test c.loop-test.all.items c.push_test.new.tests.items c.test-item.is c.loop-test-test.true
    c.loop-test.invariant c.requires.sized c.in_ok-test.ensures.test c.in_ok-test.ensures.small
    c.in_ok-push_test.ensures
