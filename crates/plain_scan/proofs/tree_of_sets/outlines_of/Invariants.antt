use Rattle.scop_syntax.proofs.Common.{take}
use Rattle.plain_scan.specs.Hulls.{sets_in}
use Rattle.plain_scan.specs.Leaving.{LeavesOut}
use Rattle.plain_scan.proofs.tree_of_sets.outlines_of.Given as goal

abbrev pub invariant-loop-set : goal.invariant-loop-set
invariant-loop-set l = LeavesOut (take l.set-index l.sets) (sets_in l.outlines.items)
