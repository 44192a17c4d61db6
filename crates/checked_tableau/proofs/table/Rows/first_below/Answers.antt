use Rattle.whole_numbers.proofs.Common.{◌<◌, length, subst, sym, ◌∙◌, arith}
use Rattle.tableau_rows.specs.Run.{has_below}
use Rattle.tableau_rows.specs.Moves.{rows_in}
use Rattle.checked_tableau.specs.Table.{Table, stride_of}
use Rattle.checked_tableau.proofs.RowScans.{first_inside}
use Rattle.checked_tableau.proofs.Tables.{length-rows_in}
use Rattle.checked_tableau.proofs.table.Rows.first_below.Goals as goal

pub returns-clause-inside : goal.returns-clause-inside
returns-clause-inside c r h =
    let i = c.self.inside in
    let rows = rows_in c.len.result i.count c.deref.result.now in
    let l = length-rows_in c.len.result i.count c.deref.result.now in
    let k = length-rows_in (stride_of i.unknowns i.parameters) i.count i.cells.items in
    let below = first_inside (has_below i.unknowns) 0 rows r (sym c.first_below.ensures ∙ h) in
    subst (λ (t : Table). r < length t.rows) c.self.view_is (omega arith)
