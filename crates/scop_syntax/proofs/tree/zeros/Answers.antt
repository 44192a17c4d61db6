use Rattle.whole_numbers.proofs.Common.{rules, sym, replicate-zeros}
use Rattle.scop_syntax.proofs.tree.zeros.Goals as goal

pub returns : goal.returns
returns c = rw (sym (replicate-zeros c.args.count)) (search rules)
