use Rattle.std.proofs.Common.{◌≡◌, drop, pos}
use Rattle.affine_forms.specs.Runs.{dot_run_from}
use Rattle.affine_forms.proofs.row.dot.Given as goal

abbrev pub invariant-loop-at : goal.invariant-loop-at
invariant-loop-at l =
    dot_run_from l.sum (drop l.at l.coefficients) (drop l.at l.point)
    ≡ dot_run_from (pos 0) l.coefficients l.point
