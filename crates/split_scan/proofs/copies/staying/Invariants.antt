use Rattle.scop_syntax.proofs.Common.{◌≡◌, take}
use Rattle.plain_scan.specs.Hulls.{sets_in}
use Rattle.split_scan.specs.steps.Parts.{staying}
use Rattle.split_scan.proofs.copies.staying.Given as goal

abbrev pub invariant-loop-at : goal.invariant-loop-at
invariant-loop-at l = sets_in l.out.items ≡ staying l.stays (sets_in (take l.at l.outlines))
