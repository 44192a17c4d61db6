use Rattle.dataflow.proofs.Common.{◌+◌, variables}
use Rattle.dataflow.proofs.Lists.{two_put}
use Rattle.dataflow.proofs.problem.moved_forms.Goals as goal

pub returns : goal.returns
returns c =
    let m = c.args.parameters in
    let e = c.args.turns in
    two_put (variables (m + e) m e) (variables (m + e) 0 m) c.new-inner.result.items c.push_variables.new.out.items
    c.push_variables-2.new.out.items c.new-inner.ensures.items c.in_ok-push_variables.ensures
    c.in_ok-push_variables-2.ensures
