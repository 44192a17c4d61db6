use Rattle.scop_syntax.proofs.Common.{length}
use Rattle.loop_tree.proofs.ranges.+upper_at.Given as goal

abbrev pub decreases-upper_at : goal.decreases-upper_at
decreases-upper_at l = length l.others.now
