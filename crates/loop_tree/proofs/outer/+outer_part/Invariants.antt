use Rattle.scop_syntax.proofs.Common.{length}
use Rattle.loop_tree.specs.steps.Chain.{values_in}
use Rattle.loop_tree.proofs.outer.+outer_part.Given as goal

abbrev pub decreases-outer_part : goal.decreases-outer_part
decreases-outer_part l = length (values_in l.outer.now)
