use Rattle.dataflow.proofs.Common.{◌+◌, variables, all_below, top}
use Rattle.dataflow.proofs.Lists.{three_put}
use Rattle.dataflow.proofs.problem.pair_behind.Goals as goal

pub returns : goal.returns
returns c =
    let d = c.args.unknowns in
    let m = c.args.parameters in
    let e = c.args.turns in
    let n = d + (m + e) in
    three_put (all_below top n 0 d) (variables n (d + m) e) (variables n d m) c.new-inner.result.items
    c.push_below.new.out.items c.push_variables.new.out.items c.push_variables-2.new.out.items
    c.new-inner.ensures.items c.in_ok-push_below.ensures c.in_ok-push_variables.ensures
    c.in_ok-push_variables-2.ensures
