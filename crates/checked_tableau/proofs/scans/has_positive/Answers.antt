use Rattle.whole_numbers.proofs.Common.{rules, arith, add-one, ◌-◌, ◌+◌}
use Rattle.tableau_rows.specs.Moves.{line_row}
use Rattle.tableau_rows.specs.Run.{some_positive}
use Rattle.checked_tableau.proofs.RowScans.{positive_past}
use Rattle.checked_tableau.proofs.scans.has_positive.Goals as goal

pub loop-column-preserved : goal.loop-column-preserved
loop-column-preserved c =
    let n = c.args.unknowns in
    let i = c.loop-column.column in
    positive_past (line_row c.args.row.now) i (n - (i + 1)) (n - i) (i + 1)
    (some_positive (line_row c.args.row.now) 0 n)
    (omega arith) (add-one i) (search rules) c.loop-column.invariant
