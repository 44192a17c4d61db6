use Rattle.whole_numbers.proofs.Common.{rules, ◌≡◌, ◌++◌, length, ap, ◌∙◌}
use Rattle.tableau_rows.specs.Moves.{line_row, row_at, rows_in}
use Rattle.checked_tableau.specs.Lines.{behind_columns}
use Rattle.checked_tableau.proofs.Tables.{head_sized}
use Rattle.checked_tableau.proofs.CutLines.{cut_row-ok, cut_row-err}
use Rattle.checked_tableau.proofs.table.append_cut.Goals as goal

pub cut_line-requires-clause-positive : goal.cut_line-requires-clause-positive
cut_line-requires-clause-positive c =
    let cells = c.args.cells.now.items in
    let line = c.copy_from_slice.new.self in
    let is : line_row line ≡ row_at (rows_in (length c.args.line.now) c.args.count cells) c.args.row =
    ap line_row c.copy_from_slice.ensures.after ∙ (rw c.deref.ensures.value at c.line_at.ensures.line) in
    head_sized (length c.args.line.now) c.requires.sized.0 c.args.count c.args.row cells line c.requires.row
    c.requires.sized.1 is

pub returns-in-Err : goal.returns-in-Err
returns-in-Err c =
    let cells = c.args.cells.now.items in
    let line = c.copy_from_slice.new.self in
    let row = row_at (rows_in (length c.args.line.now) c.args.count cells) c.args.row in
    let is : line_row line ≡ row = ap line_row c.copy_from_slice.ensures.after
    ∙ (rw c.deref.ensures.value at c.line_at.ensures.line) in (
      cut_row-err c.args.unknowns (behind_columns c.args.unknowns c.args.parameter) line row c.in-Err.wide is
          c.in-Err.ensures,
      search rules,
    )

pub returns-in-Ok-extend_from_slice : goal.returns-in-Ok-extend_from_slice
returns-in-Ok-extend_from_slice c =
    let cells = c.args.cells.now.items in
    let line = c.copy_from_slice.new.self in
    let row = row_at (rows_in (length c.args.line.now) c.args.count cells) c.args.row in
    let is : line_row line ≡ row = ap line_row c.copy_from_slice.ensures.after
    ∙ (rw c.deref.ensures.value at c.line_at.ensures.line) in
    let new = c.cut_line.new.line in
    let now : c.extend_from_slice.new.self.items ≡ cells ++ new = search rules in (
      new,
      c.cut_line.auto.line ∙ c.copy_from_slice.ensures.len,
      now,
      cut_row-ok c.args.unknowns
          (behind_columns c.args.unknowns c.args.parameter) line new row is c.in-Ok.ensures,
    )
