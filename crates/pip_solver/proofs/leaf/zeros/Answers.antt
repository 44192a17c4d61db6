use Rattle.whole_numbers.proofs.Common.{rules, replicate-zeros}
use Rattle.pip_solver.proofs.leaf.zeros.Goals as goal

pub returns : goal.returns
returns c = rw (← replicate-zeros c.args.count) (search rules)
