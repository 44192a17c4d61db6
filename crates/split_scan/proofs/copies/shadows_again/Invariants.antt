use Rattle.scop_syntax.proofs.Common.{take}
use Rattle.split_scan.specs.steps.Copies.{AreCopies}
use Rattle.split_scan.proofs.copies.shadows_again.Given as goal

abbrev pub invariant-loop-shadow : goal.invariant-loop-shadow
invariant-loop-shadow l = AreCopies (take l.shadow-index l.shadows) l.out.items
