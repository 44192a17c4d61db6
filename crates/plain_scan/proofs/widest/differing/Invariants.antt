use Rattle.scop_syntax.proofs.Common.{◌≤◌}
use Rattle.plain_scan.proofs.widest.differing.Given as goal

abbrev pub invariant-loop-at : goal.invariant-loop-at
invariant-loop-at l = l.count ≤ l.at
