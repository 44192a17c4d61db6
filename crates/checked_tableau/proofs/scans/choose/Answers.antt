use Rattle.whole_numbers.proofs.Common.{arith, add-one, ◌+◌, ◌-◌, length, sym}
use Rattle.tableau_rows.specs.Moves.{line_row, rows_in}
use Rattle.checked_tableau.proofs.RowScans.{column_past}
use Rattle.checked_tableau.proofs.scans.choose.Goals as goal

pub loop-column-preserved : goal.loop-column-preserved
loop-column-preserved c =
    let n = c.args.columns in
    let j = c.loop-column.column in (
      column_past (rows_in (length c.args.pivot.now) c.args.count c.args.unknowns.now) (line_row c.args.pivot.now) j
          (j + 1) (n - (j + 1)) (n - j)
          c.loop-column.best c.in-Ok.next _ (omega arith) (add-one j) (sym c.in-Ok.ensures.run)
          c.loop-column.invariant.0,
      λ s h. c.in-Ok.ensures.leads s (cc h),
    )

pub returns-clause-leads : goal.returns-clause-leads
returns-clause-leads c s h = c.loop-column.invariant.1 s (cc h)
