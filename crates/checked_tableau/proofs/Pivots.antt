-- A pivot in its column.
use Rattle.whole_numbers.proofs.Common.{◌≡◌, ℕ, List, subst, ap, sym, take, Option, Some, None, Result, Ok, Err}
use Rattle.wide_math.specs.declared.Wide.{Wide}
use Rattle.wide_math.specs.Checked.{◌>>=◌}
use Rattle.tableau_rows.specs.Rows.{Row}
use Rattle.tableau_rows.specs.Moves.{row_at, column_run, pivot_in, pivot_run, rows_run}
use Rattle.checked_tableau.specs.Table.{Table, Moves, resumed}

pub pivot_run-column : (n : ℕ) (rows : List Row) (r : ℕ) (s : Option ℕ)
    → column_run (take n rows) (row_at rows r) n 0 None ≡ Ok s → pivot_run n rows r ≡ pivot_in rows r s
unfolding pivot_run
pivot_run-column n rows r s h = ap (λ (q : Result (Option ℕ) Wide). q >>= λ s. pivot_in rows r s) h

pub pivot_run-err : (n : ℕ) (rows : List Row) (r : ℕ) (w : Wide)
    → column_run (take n rows) (row_at rows r) n 0 None ≡ Err w → pivot_run n rows r ≡ Err w
unfolding pivot_run
pivot_run-err n rows r w h = ap (λ (q : Result (Option ℕ) Wide). q >>= λ s. pivot_in rows r s) h

-- rows that have not stopped run on
pub resumed-going : {A : Type 0} (stopped : Option Wide) (run result : Result A Wide) → stopped ≡ None → run ≡ result
    → resumed stopped run ≡ result
resumed-going {A = A} stopped run result going is = subst (λ (o : Option Wide). resumed {A = A} o run ≡ result)
    (sym going) is

pub pivots_moved : {U : Type 0} (old new : Table) (r s : ℕ) (result : Result U Wide)
    → column_run (take old.unknowns old.rows) (row_at old.rows r) old.unknowns 0 None ≡ Ok (Some s)
    → Moves old (rows_run r s (row_at old.rows r) 0 old.rows) new result
    → Moves old (pivot_run old.unknowns old.rows r) new result
pivots_moved {U = U} old new r s result column moves =
    subst (λ (q : Result (List Row) Wide). Moves {U = U} old q new result)
    (sym (pivot_run-column old.unknowns old.rows r (Some s) column)) moves
