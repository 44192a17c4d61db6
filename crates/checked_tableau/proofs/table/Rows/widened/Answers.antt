use Rattle.whole_numbers.proofs.Common.{rules, ◌≡◌, ◌+◌, length, map, ℕ, List, subst, sym, ap, ◌∙◌, None}
use Rattle.tableau_rows.specs.Rows.{Row}
use Rattle.tableau_rows.specs.Moves.{rows_in}
use Rattle.lexmin_runs.specs.Nodes.{longer_row}
use Rattle.checked_tableau.specs.Table.{Table, IsSound, stride_of, table_of}
use Rattle.checked_tableau.proofs.Beginnings.{sound_longer}
use Rattle.checked_tableau.proofs.table.Rows.widened.Goals as goal
use Rattle.checked_tableau.proofs.table.Rows.widened.Goals.{In-Ok-longer_lines}

made : (c : In-Ok-longer_lines)
    → IsSound c.self.inside.unknowns (c.self.inside.parameters + 1) c.self.inside.count c.in-Ok-longer_lines.cells.items
    c.in-Ok.line.items None
    × (rows_in (stride_of c.self.inside.unknowns (c.self.inside.parameters + 1)) c.self.inside.count
    c.in-Ok-longer_lines.cells.items
    ≡ map longer_row (rows_in (stride_of c.self.inside.unknowns c.self.inside.parameters) c.self.inside.count
    c.self.inside.cells.items))
made c =
    let i = c.self.inside in
    let stride = stride_of i.unknowns i.parameters in
    let going : i.stopped ≡ None = subst (λ (t : Table). t.stopped ≡ None) (sym c.self.view_is) c.requires in
    let more : c.in-Some.parameters ≡ i.parameters + 1 = search rules in
    let wide : c.in-Some-stride_for.stride ≡ stride_of i.unknowns c.in-Some.parameters = search rules in
    let long : length c.in-Ok.line.items ≡ c.in-Some-stride_for.stride = search rules in
    let k : c.len.result ≡ stride = search rules in
    let d : c.deref.result.now ≡ i.cells.items = c.deref.ensures.value in
    let held = rw (k, d) at c.in-Ok-longer_lines.ensures in
    sound_longer i.unknowns i.parameters i.count i.cells.items i.line.items c.in-Ok-longer_lines.cells.items
    c.in-Ok.line.items i.stopped c.self.invariant going
    (long ∙ wide ∙ ap (λ (m : ℕ). stride_of i.unknowns m) more) held

pub invariant_of-result : goal.invariant_of-result
invariant_of-result c =
    let i = c.self.inside in
    let more : c.in-Some.parameters ≡ i.parameters + 1 = search rules in
    subst (λ (m : ℕ). IsSound i.unknowns m i.count c.in-Ok-longer_lines.cells.items c.in-Ok.line.items None) (sym more)
    (made c).0

pub returns-in-Ok-longer_lines : goal.returns-in-Ok-longer_lines
returns-in-Ok-longer_lines c =
    let i = c.self.inside in
    let more : c.in-Some.parameters ≡ i.parameters + 1 = search rules in
    let e = ap (λ (m : ℕ). table_of i.unknowns m
    (rows_in (stride_of i.unknowns m) i.count c.in-Ok-longer_lines.cells.items) None) more
    ∙ ap (λ (rows : List Row). table_of i.unknowns (i.parameters + 1) rows None) (made c).1 in
    subst (λ (t : Table). table_of i.unknowns c.in-Some.parameters
    (rows_in (stride_of i.unknowns c.in-Some.parameters) i.count c.in-Ok-longer_lines.cells.items) None
    ≡ table_of t.unknowns (t.parameters + 1) (map longer_row t.rows) None) c.self.view_is e
