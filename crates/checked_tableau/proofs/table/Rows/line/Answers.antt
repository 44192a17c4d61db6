use Rattle.whole_numbers.proofs.Common.{rules, ◌≡◌, ◌+◌, ◌<◌, length, subst, sym, arith, None}
use Rattle.tableau_rows.specs.Moves.{rows_in}
use Rattle.checked_tableau.specs.Table.{Table, stride_of}
use Rattle.checked_tableau.proofs.Tables.{head_sized, length-rows_in}
use Rattle.checked_tableau.proofs.table.Rows.line.Goals as goal

pub returns-clause-positive : goal.returns-clause-positive
returns-clause-positive c e =
    let i = c.self.inside in
    let stride = stride_of i.unknowns i.parameters in
    let k : c.len.result ≡ stride = search rules in
    let d : c.deref.result.now ≡ i.cells.items = c.deref.ensures.value in
    let line = rw (d, k) at c.line_at.ensures.line in
    let l = length-rows_in stride i.count i.cells.items in
    let low : c.args.row < length (rows_in stride i.count i.cells.items) =
    subst (λ (t : Table). c.args.row < length t.rows) (sym c.self.view_is) c.requires in
    let going : i.stopped ≡ None = subst (λ (t : Table). t.stopped ≡ None) (sym c.self.view_is) e in
    head_sized stride (i.unknowns + 1 + i.parameters) i.count c.args.row i.cells.items c.line_at.result.now
    (omega arith) (c.self.invariant.tableau going).sized line
