use Rattle.whole_numbers.proofs.Common.{◌≡◌, ◌≤◌, None}
use Rattle.tableau_rows.specs.Run.{run}
use Rattle.pip_solver.proofs.question.question.Given as goal

abbrev pub invariant-loop-found : goal.invariant-loop-found
invariant-loop-found l =
    (l.left ≤ l.fn.left)
    × (l.rows.stopped ≡ None)
    × (run l.rows.unknowns l.left l.rows.rows ≡ run l.fn.rows.unknowns l.fn.left l.fn.rows.rows)

abbrev pub decreases-loop-found : goal.decreases-loop-found
decreases-loop-found l = l.left
