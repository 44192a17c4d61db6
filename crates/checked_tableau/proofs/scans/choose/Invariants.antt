use Rattle.whole_numbers.proofs.Common.{◌≡◌, ℕ, ◌-◌, length, None, Some}
use Rattle.tableau_rows.specs.Moves.{line_row, rows_in, column_run}
use Rattle.checked_tableau.specs.steps.Leads.{Leads}
use Rattle.checked_tableau.proofs.scans.choose.Given as goal

abbrev pub invariant-loop-column : goal.invariant-loop-column
invariant-loop-column l =
    (column_run (rows_in (length l.pivot) l.count l.unknowns) (line_row l.pivot) (l.columns - l.column) l.column l.best
    ≡ column_run (rows_in (length l.pivot) l.count l.unknowns) (line_row l.pivot) l.columns 0 None)
    × ((s : ℕ) → l.best ≡ Some s → Leads l.columns l.pivot s)
