use Rattle.scop_syntax.proofs.Common.{ℤ, pos, ◌≤ℤ◌, List, ◌≤◌, ◌^◌, IfSome, unsigned_abs, form_of, value_of}
use Rattle.plain_scan.specs.steps.Pieces.{Hold}
use Rattle.plain_scan.proofs.hull.least_constant.Given as goal

abbrev pub invariant-loop-row : goal.invariant-loop-row
invariant-loop-row l = record {
  holds : IfSome l.least
      (λ c. (point : List ℤ) → Hold l.rows point → pos 0 ≤ℤ value_of (form_of l.coefficients c) point);
  small : IfSome l.least (λ c. unsigned_abs c ≤ 2 ^ 40);
}
