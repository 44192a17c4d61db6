use Rattle.scop_syntax.proofs.Common.{length}
use Rattle.loop_tree.proofs.counting.+bounds_are_free.Given as goal

abbrev pub decreases-bounds_are_free : goal.decreases-bounds_are_free
decreases-bounds_are_free l = length l.others.now
