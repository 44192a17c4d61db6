use Rattle.whole_numbers.proofs.Common.{◌≡◌, ◌+◌, ◌-◌, ◌*◌, take, drop, subst, sym, arith}
use Rattle.tableau_rows.specs.Moves.{line_row, row_at, rows_in}
use Rattle.checked_tableau.proofs.Tables.{line_in}
use Rattle.checked_tableau.proofs.table.line_at.Goals as goal

pub returns-clause-line : goal.returns-clause-line
returns-clause-line c =
    let stride = c.args.stride in
    let start = c.args.row * stride in
    let e : (start + stride) - start ≡ stride = omega arith in
    subst (λ k. line_row (take k (drop start c.args.cells.now))
    ≡ row_at (rows_in stride c.args.count c.args.cells.now) c.args.row) (sym e)
    (line_in stride c.args.count c.args.row c.args.cells.now c.requires.row)
