use Rattle.scop_syntax.proofs.Common.{length}
use Rattle.loop_tree.proofs.ranges.+lower_at.Given as goal

abbrev pub decreases-lower_at : goal.decreases-lower_at
decreases-lower_at l = length l.others.now
