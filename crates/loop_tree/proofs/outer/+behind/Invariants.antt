use Rattle.scop_syntax.proofs.Common.{length}
use Rattle.loop_tree.specs.steps.Chain.{values_in}
use Rattle.loop_tree.proofs.outer.+behind.Given as goal

abbrev pub decreases-behind : goal.decreases-behind
decreases-behind l = length (values_in l.outer.now)
