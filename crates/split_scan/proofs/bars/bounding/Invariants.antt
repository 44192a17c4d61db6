use Rattle.scop_syntax.proofs.Common.{◌≡◌, take}
use Rattle.split_scan.specs.steps.Copies.{bounding_in}
use Rattle.split_scan.proofs.bars.bounding.Given as goal

abbrev pub invariant-loop-row : goal.invariant-loop-row
invariant-loop-row l = l.out.items ≡ bounding_in l.place (take l.row-index l.rows)
