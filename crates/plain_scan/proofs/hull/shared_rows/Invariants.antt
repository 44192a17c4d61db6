use Rattle.plain_scan.specs.Hulls.{IsHull}
use Rattle.plain_scan.proofs.hull.shared_rows.Given as goal

abbrev pub invariant-loop-row : goal.invariant-loop-row
invariant-loop-row l = IsHull l.depth l.place l.variables l.outlines l.out.items
