use Rattle.whole_numbers.proofs.Common.{rules, ◌≡◌, ◌∙◌, ap, sym, subst, Some, None, Ok, Err, Option}
use Rattle.tableau_rows.specs.Moves.{pivot_run}
use Rattle.checked_tableau.specs.Table.{Table, table_of}
use Rattle.wide_math.specs.declared.Wide.{Wide}
use Rattle.checked_tableau.proofs.Pivots.{pivot_run-column, pivot_run-err, pivots_moved, resumed-going}
use Rattle.checked_tableau.proofs.table.Rows.pivot_on.Goals as goal

pub pivot-requires-clause-column : goal.pivot-requires-clause-column
pivot-requires-clause-column c =
    let is : c.column.result ≡ Ok (Some c.in-Ok-Some.column) =
    c.in-Ok-Some.is ∙ ap (λ o. Ok o) c.in-Ok-Some.field-0-is in
    (c.column.ensures.leads c.in-Ok-Some.column is).0

pub returns-in-Err : goal.returns-in-Err
returns-in-Err c =
    let t = c.args.self.now in
    let going : t.stopped ≡ None = subst (λ (t : Table). t.stopped ≡ None) c.self.view_is c.in_default.is in (
      resumed-going t.stopped (pivot_run t.unknowns t.rows c.args.row) (Err c.in-Err.wide) going
          (pivot_run-err t.unknowns t.rows c.args.row c.in-Err.wide (sym c.column.ensures.run ∙ c.in-Err.is)),
      search rules,
    )

pub returns-in-Ok-None : goal.returns-in-Ok-None
returns-in-Ok-None c =
    let t = c.args.self.now in
    let going : t.stopped ≡ None = subst (λ (t : Table). t.stopped ≡ None) c.self.view_is c.in_default.is in
    let is : c.column.result ≡ Ok None = c.in-Ok-None.is ∙ ap (λ o. Ok o) c.in-Ok-None.field-0-is in (
      resumed-going t.stopped (pivot_run t.unknowns t.rows c.args.row) (Ok t.rows) going
          (pivot_run-column t.unknowns t.rows c.args.row None (sym c.column.ensures.run ∙ is)),
      ap (λ (o : Option Wide). table_of t.unknowns t.parameters t.rows o) going,
    )

pub returns-in-Ok-Some : goal.returns-in-Ok-Some
returns-in-Ok-Some c =
    let is : c.column.result ≡ Ok (Some c.in-Ok-Some.column) =
    c.in-Ok-Some.is ∙ ap (λ o. Ok o) c.in-Ok-Some.field-0-is in
    pivots_moved c.args.self.now c.pivot.new.self c.args.row c.in-Ok-Some.column c.pivot.result
    (sym c.column.ensures.run ∙ is) c.pivot.ensures.run
