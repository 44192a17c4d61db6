use Rattle.whole_numbers.proofs.Common.{◌≡◌, ◌*◌, ◌+◌, ◌-◌, length, get_or, pos}
use Rattle.tableau_rows.specs.Moves.{rows_in, precedes_run}
use Rattle.checked_tableau.proofs.scans.precedes.Given as goal

abbrev pub invariant-loop : goal.invariant-loop
invariant-loop l =
    (length l.rest ≡ (l.count - l.counter) * length l.pivot)
    × (precedes_run (get_or l.pivot (l.column + 1) (pos 0)) (get_or l.pivot (l.best + 1) (pos 0)) l.column l.best
    (rows_in (length l.pivot) (l.count - l.counter) l.rest)
    ≡ precedes_run (get_or l.pivot (l.column + 1) (pos 0)) (get_or l.pivot (l.best + 1) (pos 0)) l.column l.best
    (rows_in (length l.pivot) l.count l.fn.unknowns))
