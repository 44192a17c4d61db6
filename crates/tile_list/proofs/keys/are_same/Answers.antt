use Rattle.scop_syntax.proofs.Common.{Decides-eqb, slice_eq-Decides}
use Rattle.tile_list.proofs.keys.are_same.Goals as goal

pub returns : goal.returns
returns c = slice_eq-Decides Decides-eqb c.args.left.now c.args.right.now c.eq.result c.eq.ensures
