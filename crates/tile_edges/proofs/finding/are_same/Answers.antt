use Rattle.scop_syntax.proofs.Common.{Decides-int_eq, slice_eq-Decides}
use Rattle.tile_edges.proofs.finding.are_same.Goals as goal

pub returns : goal.returns
returns c = slice_eq-Decides Decides-int_eq c.args.left.now c.args.right.now c.eq.result c.eq.ensures
