use Rattle.whole_numbers.proofs.Common.{◌≡◌, take, Ok}
use Rattle.checked_tableau.specs.Emptiness.{equality_rows_run}
use Rattle.pip_solver.proofs.system_rows.pose_equalities.Given as goal

abbrev pub invariant-loop-form : goal.invariant-loop-form
invariant-loop-form l = equality_rows_run (take l.form-index l.forms) ≡ Ok l.rows.items
