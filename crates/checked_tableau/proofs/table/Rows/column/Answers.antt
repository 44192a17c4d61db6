use Rattle.whole_numbers.proofs.Common.{rules, length, ◌≡◌, ◌<◌, ℤ, pos, ◌<ℤ◌, take, ◌∙◌, subst, sym, List, None, ◌*◌}
use Rattle.whole_numbers.proofs.Common.{ℕ, ap, arith, length-take-le}
use Rattle.tableau_rows.specs.Rows.{Row, entry}
use Rattle.tableau_rows.specs.Moves.{rows_in, row_at, column_run}
use Rattle.checked_tableau.specs.Table.{Table, stride_of}
use Rattle.tableau_rows.proofs.Lines.{entry_at}
use Rattle.checked_tableau.proofs.Tables.{length-rows_in, lines_within, take_rows_in}
use Rattle.checked_tableau.proofs.table.Rows.column.Goals as goal

pub line_at-pivot-requires-clause-size : goal.line_at-pivot-requires-clause-size
line_at-pivot-requires-clause-size c =
    let i = c.self.inside in
    let k : stride_of i.unknowns i.parameters ≡ c.len-stride.result = search rules in
    ap (λ (zs : List ℤ). length zs) c.deref.ensures.value ∙ c.self.invariant.size ∙ ap (λ (n : ℕ). i.count * n) k

pub line_at-pivot-requires-clause-row : goal.line_at-pivot-requires-clause-row
line_at-pivot-requires-clause-row c =
    let i = c.self.inside in
    let l = length-rows_in (stride_of i.unknowns i.parameters) i.count i.cells.items in
    let low = subst (λ (t : Table). c.args.row < length t.rows) (sym c.self.view_is) c.requires in
    omega arith

pub overflow_mul-unknowns : goal.overflow_mul-unknowns
overflow_mul-unknowns c =
    let i = c.self.inside in
    let k : c.len-stride.result ≡ stride_of i.unknowns i.parameters = search rules in
    let size : length i.cells.items ≡ i.count * c.len-stride.result = c.self.invariant.size
    ∙ ap (λ (n : ℕ). i.count * n) (sym k) in
    let l = lines_within i.unknowns i.count c.len-stride.result (length i.cells.items) c.self.invariant.many size in
    omega arith

pub slice_bounds-unknowns-end : goal.slice_bounds-unknowns-end
slice_bounds-unknowns-end c =
    let i = c.self.inside in
    let k : c.len-stride.result ≡ stride_of i.unknowns i.parameters = search rules in
    let same = ap (λ (zs : List ℤ). length zs) c.deref-2.ensures.value in
    let size : length i.cells.items ≡ i.count * c.len-stride.result = c.self.invariant.size
    ∙ ap (λ (n : ℕ). i.count * n) (sym k) in
    let l = lines_within i.unknowns i.count c.len-stride.result (length i.cells.items) c.self.invariant.many size in
    sym (length-take-le (i.unknowns * c.len-stride.result) c.deref-2.result.now (omega arith))

pub choose-requires-clause-lengths : goal.choose-requires-clause-lengths
choose-requires-clause-lengths c =
    let i = c.self.inside in
    let k : c.len-stride.result ≡ stride_of i.unknowns i.parameters = search rules in
    let same = ap (λ (zs : List ℤ). length zs) c.deref-2.ensures.value in
    let size : length i.cells.items ≡ i.count * c.len-stride.result = c.self.invariant.size
    ∙ ap (λ (n : ℕ). i.count * n) (sym k) in
    let l = lines_within i.unknowns i.count c.len-stride.result (length i.cells.items) c.self.invariant.many size in
    length-take-le (i.unknowns * c.len-stride.result) c.deref-2.result.now (omega arith)
    ∙ ap (λ (n : ℕ). i.unknowns * n) (sym c.line_at-pivot.ensures.length)

pub choose-requires-clause-columns : goal.choose-requires-clause-columns
choose-requires-clause-columns c =
    let i = c.self.inside in
    let k : c.len-stride.result ≡ stride_of i.unknowns i.parameters = search rules in
    let long = c.line_at-pivot.ensures.length in
    omega arith

pub returns-clause-run : goal.returns-clause-run
returns-clause-run c =
    let i = c.self.inside in
    let inv = c.self.invariant in
    let stride = stride_of i.unknowns i.parameters in
    let k : c.len-stride.result ≡ stride = search rules in
    let d : c.deref.result.now ≡ i.cells.items = c.deref.ensures.value in
    let d2 : c.deref-2.result.now ≡ i.cells.items = c.deref-2.ensures.value in
    let long : length c.line_at-pivot.result.now ≡ stride = c.line_at-pivot.ensures.length ∙ k in
    let line = rw (d, k) at c.line_at-pivot.ensures.line in
    let given = rw (d2, k, long, line, ← take_rows_in stride i.unknowns i.count i.cells.items inv.many inv.size) at
    c.choose.ensures.run in
    subst (λ (t : Table). c.choose.result ≡ column_run (take t.unknowns t.rows) (row_at t.rows c.args.row) t.unknowns 0
    None) c.self.view_is given

pub returns-clause-leads : goal.returns-clause-leads
returns-clause-leads c s h =
    let i = c.self.inside in
    let stride = stride_of i.unknowns i.parameters in
    let k : c.len-stride.result ≡ stride = search rules in
    let d : c.deref.result.now ≡ i.cells.items = c.deref.ensures.value in
    let line = rw (d, k) at c.line_at-pivot.ensures.line in
    let l = c.choose.ensures.leads s h in
    let at : pos 0 <ℤ entry (row_at (rows_in stride i.count i.cells.items) c.args.row) s =
    subst (λ (row : Row). pos 0 <ℤ entry row s) line
    (subst (λ (z : ℤ). pos 0 <ℤ z) (sym (entry_at c.line_at-pivot.result.now s)) l.1) in
    subst (λ (t : Table). (s < t.unknowns) × (pos 0 <ℤ entry (row_at t.rows c.args.row) s)) c.self.view_is (l.0, at)
