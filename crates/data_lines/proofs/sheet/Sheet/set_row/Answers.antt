use Rattle.scop_syntax.proofs.Common.{List, ap, map-set}
use Rattle.data_lines.specs.Sheets.{Given, Sheet, given_of}
use Rattle.data_lines.proofs.sheet.Sheet.set_row.Goals as goal

pub returns : goal.returns
returns c =
    let with_rows : List Given → Sheet = λ rows. record { values = c.args.self.now.values.items; rows = rows } in
    ap with_rows (map-set given_of c.args.self.now.rows.items c.args.array c.args.given)
