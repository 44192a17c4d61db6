use Rattle.integer_sets.proofs.PointOrder.{LexLess-split}
use Rattle.integer_sets.proofs.laws.prefix_decides_the_order.Goals as goal

pub returns : goal.returns
returns c = LexLess-split
