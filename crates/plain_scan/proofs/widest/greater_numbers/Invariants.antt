use Rattle.scop_syntax.proofs.Common.{◌≡◌, take}
use Rattle.plain_scan.specs.steps.Weaker.{greater_numbers}
use Rattle.plain_scan.proofs.widest.greater_numbers.Given as goal

abbrev pub invariant-loop-at : goal.invariant-loop-at
invariant-loop-at l = l.out.items ≡ greater_numbers (take l.at l.xs) (take l.at l.ys)
