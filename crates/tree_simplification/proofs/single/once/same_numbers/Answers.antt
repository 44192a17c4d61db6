use Rattle.scop_syntax.proofs.Common.{Decides-int_eq, slice_eq-Decides}
use Rattle.tree_simplification.proofs.single.once.same_numbers.Goals as goal

pub returns : goal.returns
returns c = (slice_eq-Decides Decides-int_eq c.args.xs.now c.args.ys.now c.eq.result c.eq.ensures).0
