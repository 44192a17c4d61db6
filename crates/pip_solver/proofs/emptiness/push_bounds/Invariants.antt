use Rattle.whole_numbers.proofs.Common.{◌≡◌, ◌++◌, ◌-◌}
use Rattle.checked_tableau.specs.Emptiness.{bound_rows}
use Rattle.pip_solver.proofs.emptiness.push_bounds.Given as goal

abbrev pub invariant-loop-place : goal.invariant-loop-place
invariant-loop-place l =
    l.rows.items ++ bound_rows l.variables l.place (l.variables - l.place)
    ≡ l.fn.rows.items ++ bound_rows l.variables l.first (l.variables - l.first)
