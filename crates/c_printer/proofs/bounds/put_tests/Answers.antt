use Rattle.scop_syntax.proofs.Common.{map}
use Rattle.loop_tree.specs.View.{test_of}
use Rattle.c_printer.proofs.PutTexts.{test_put}
use Rattle.c_printer.proofs.bounds.put_tests.Goals as goal

pub loop-test-preserved : goal.loop-test-preserved
loop-test-preserved c =
    let l = c.loop-test in
    test_put test_of (map (λ n. n.items) c.args.names.now) c.args.loops c.args.tests.now l.test-index l.first
    c.test-item.result l.out.items c.put_conjunction.new.out.items c.put_test.new.out.items _ c.test-item.is
    c.loop-test-test.true c.in-Ok.ensures c.in-Ok-put_test.ensures l.invariant
