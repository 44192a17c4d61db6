use Rattle.scop_syntax.proofs.Common.{◌++◌, arith}
use Rattle.iteration_domains.specs.Rows.{variables}
use Rattle.iteration_domains.proofs.Surroundings.{variables_step}
use Rattle.iteration_domains.proofs.forms.push_variables.Goals as goal

pub loop-step-preserved : goal.loop-step-preserved
loop-step-preserved c =
    variables_step c.loop-step.out.items c.push.new.list.items
    (c.args.out.now.items ++ variables c.args.of c.args.from c.args.count) c.in_ok-form.form c.args.of c.args.from
    c.loop-step.step c.args.count (omega arith) c.loop-step.invariant c.in_ok-form.ensures c.in_ok-push.ensures.pushed
