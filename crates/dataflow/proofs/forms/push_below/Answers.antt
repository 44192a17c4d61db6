use Rattle.dataflow.proofs.Common.{◌++◌, arith, pos, all_below}
use Rattle.dataflow.proofs.Lists.{below_put}
use Rattle.dataflow.proofs.forms.push_below.Goals as goal

pub loop-step-preserved : goal.loop-step-preserved
loop-step-preserved c =
    below_put (pos c.args.most) c.loop-step.out.items c.push.new.list.items
    (c.args.out.now.items ++ all_below (pos c.args.most) c.args.of c.args.from c.args.count) c.in_ok-form.form
    c.args.of c.args.from c.loop-step.step c.args.count (omega arith) c.loop-step.invariant c.in_ok-form.ensures
    c.in_ok-push.ensures.pushed
