use Rattle.whole_numbers.proofs.Common.{arith, length, ◌≡◌, ap, ◌∙◌}
use Rattle.tableau_rows.specs.Moves.{line_row, row_at, rows_in}
use Rattle.checked_tableau.proofs.Tables.{pivot_in_buffer}
use Rattle.checked_tableau.proofs.table.pivot_lines.Goals as goal

pub returns : goal.returns
returns c =
    let n = length c.args.line.now in
    let line = c.copy_from_slice.new.self in
    let e : line_row line ≡ row_at (rows_in n c.args.count c.args.cells.now) c.args.row =
    ap line_row c.copy_from_slice.ensures.after ∙ c.line_at.ensures.line in
    pivot_in_buffer n c.args.count c.args.row c.args.column c.args.cells.now line c.pivot_rows.new.cells
    c.pivot_rows.result
    c.requires.row (omega arith) c.copy_from_slice.ensures.len c.requires.size e c.pivot_rows.ensures
