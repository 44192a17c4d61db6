use Rattle.whole_numbers.proofs.Common.{◌++◌, take, drop, rules, arith, length, ◌≡◌, ◌+◌, ◌<◌, ℕ, ℤ, pos, ◌<ℤ◌, List}
use Rattle.whole_numbers.proofs.Common.{ap, ◌∙◌, subst, sym, ◌*◌, None}
use Rattle.tableau_rows.specs.Rows.{entry}
use Rattle.tableau_rows.specs.Solutions.{HaveSameSolutions}
use Rattle.tableau_rows.proofs.KeptSolutions.{pivot_keeps_solutions}
use Rattle.tableau_rows.specs.Moves.{rows_in, row_at, rows_run, HeadsPositive}
use Rattle.checked_tableau.specs.Table.{Table, table_in, stride_of}
use Rattle.checked_tableau.proofs.Tables.{goes_by, heads_sized, length-rows_in, sound_pivot, sound_stopped}
use Rattle.checked_tableau.proofs.Tables.{stays_stopped, stops_by, written_whole}
use Rattle.checked_tableau.proofs.table.Rows.pivot.Goals as goal

pub pivot_lines-requires-clause-size : goal.pivot_lines-requires-clause-size
pivot_lines-requires-clause-size c =
    let i = c.self.inside in
    let k : stride_of i.unknowns i.parameters ≡ length c.deref_mut-2.result.now =
    sym (ap (λ (zs : List ℤ). length zs) c.deref_mut-2.ensures.value ∙ c.self.invariant.room) in
    ap (λ (zs : List ℤ). length zs) c.deref_mut.ensures.value ∙ c.self.invariant.size ∙ ap (λ (n : ℕ). i.count * n) k

pub pivot_lines-requires-clause-row : goal.pivot_lines-requires-clause-row
pivot_lines-requires-clause-row c =
    let i = c.self.inside in
    let l = length-rows_in (stride_of i.unknowns i.parameters) i.count i.cells.items in
    let low = subst (λ (t : Table). c.args.row < length t.rows) (sym c.self.view_is) c.requires.row in
    omega arith

pub pivot_lines-requires-clause-column : goal.pivot_lines-requires-clause-column
pivot_lines-requires-clause-column c =
    let i = c.self.inside in
    let k : stride_of i.unknowns i.parameters ≡ length c.deref_mut-2.result.now =
    sym (ap (λ (zs : List ℤ). length zs) c.deref_mut-2.ensures.value ∙ c.self.invariant.room) in
    let low = subst (λ (t : Table). c.args.column < t.unknowns) (sym c.self.view_is) c.requires.column in
    omega arith

pub pivot_lines-requires-clause-entry : goal.pivot_lines-requires-clause-entry
pivot_lines-requires-clause-entry c =
    let i = c.self.inside in
    let k : stride_of i.unknowns i.parameters ≡ length c.deref_mut-2.result.now =
    sym (ap (λ (zs : List ℤ). length zs) c.deref_mut-2.ensures.value ∙ c.self.invariant.room) in
    let here = subst (λ (t : Table). t.stopped ≡ None → pos 0 <ℤ entry (row_at t.rows c.args.row) c.args.column)
    (sym c.self.view_is) c.requires.entry c.in_default.is in
    subst (λ (zs : List ℤ). pos 0 <ℤ
    entry (row_at (rows_in (length c.deref_mut-2.result.now) i.count zs) c.args.row) c.args.column)
    (sym c.deref_mut.ensures.value)
    (subst (λ (n : ℕ). pos 0 <ℤ entry (row_at (rows_in n i.count i.cells.items) c.args.row) c.args.column) k here)

pub pivot_lines-requires-clause-heads : goal.pivot_lines-requires-clause-heads
pivot_lines-requires-clause-heads c =
    let i = c.self.inside in
    let stride = stride_of i.unknowns i.parameters in
    let heads = heads_sized stride (i.unknowns + 1 + i.parameters) i.count i.cells.items (omega arith)
    (c.self.invariant.tableau c.in_default.is).sized in
    let k : stride ≡ length c.deref_mut-2.result.now =
    sym (ap (λ (zs : List ℤ). length zs) c.deref_mut-2.ensures.value ∙ c.self.invariant.room) in
    subst (λ (zs : List ℤ). HeadsPositive (length c.deref_mut-2.result.now) i.count zs) (sym c.deref_mut.ensures.value)
    (subst (λ (n : ℕ). HeadsPositive n i.count i.cells.items) k heads)

pub invariant_of-self-in-Ok : goal.invariant_of-self-in-Ok
invariant_of-self-in-Ok c =
    let i = c.self.inside in
    let stride = stride_of i.unknowns i.parameters in
    let now = c.pivot_lines.new.cells in
    let room = c.pivot_lines.new.line in
    let k : length c.deref_mut-2.result.now ≡ stride =
    ap (λ (zs : List ℤ). length zs) c.deref_mut-2.ensures.value ∙ c.self.invariant.room in
    let d : c.deref_mut.result.now ≡ i.cells.items = c.deref_mut.ensures.value in
    let e : c.deref_mut-2.result.now ≡ i.line.items = c.deref_mut-2.ensures.value in
    let size : length now ≡ length i.cells.items = c.pivot_lines.auto.cells ∙ ap (λ (zs : List ℤ). length zs) d in
    let same : length room ≡ length i.line.items = c.pivot_lines.auto.line ∙ ap (λ (zs : List ℤ). length zs) e in
    let run = rw (k, d) at c.in-Ok.ensures in
    let below = subst (λ (t : Table). c.args.column < t.unknowns) (sym c.self.view_is) c.requires.column in
    let here = subst (λ (t : Table). pos 0 <ℤ entry (row_at t.rows c.args.row) c.args.column) (sym c.self.view_is)
    (c.requires.entry (search rules)) in
    let l = length-rows_in stride i.count i.cells.items in
    let low : c.args.row < length (rows_in stride i.count i.cells.items) =
    subst (λ (t : Table). c.args.row < length t.rows) (sym c.self.view_is) c.requires.row in
    let sound = sound_pivot i.unknowns i.parameters i.count c.args.row c.args.column i.cells.items i.line.items now room
    i.stopped (omega arith) below c.self.invariant c.in_default.is here run size same in
    let a = written_whole i.cells.len i.cells.items now (search rules) size in
    let b = written_whole i.line.len i.line.items room (search rules) same in
    rw (a, b) sound

pub returns-in-Ok-clause-solutions : goal.returns-in-Ok-clause-solutions
returns-in-Ok-clause-solutions c =
    let i = c.self.inside in
    let stride = stride_of i.unknowns i.parameters in
    let rows = rows_in stride i.count i.cells.items in
    let now = c.pivot_lines.new.cells in
    let k : length c.deref_mut-2.result.now ≡ stride =
    ap (λ (zs : List ℤ). length zs) c.deref_mut-2.ensures.value ∙ c.self.invariant.room in
    let d : c.deref_mut.result.now ≡ i.cells.items = c.deref_mut.ensures.value in
    let size : length now ≡ length i.cells.items = c.pivot_lines.auto.cells ∙ ap (λ (zs : List ℤ). length zs) d in
    let run = rw (k, d) at c.in-Ok.ensures in
    let below = subst (λ (t : Table). c.args.column < t.unknowns) (sym c.self.view_is) c.requires.column in
    let here = subst (λ (t : Table). pos 0 <ℤ entry (row_at t.rows c.args.row) c.args.column) (sym c.self.view_is)
    (c.requires.entry (search rules)) in
    let low : c.args.row < length rows = subst (λ (t : Table). c.args.row < length t.rows) (sym c.self.view_is)
    c.requires.row in
    let given = pivot_keeps_solutions i.unknowns i.parameters c.args.row c.args.column rows (rows_in stride i.count now)
    (c.self.invariant.tableau c.in_default.is) low below here run in
    let a = written_whole i.cells.len i.cells.items now (search rules) size in
    let news = rows_in stride i.count (take i.cells.len (now ++ drop (length now) i.cells.items)) in
    subst (λ (t : Table). (p : List ℤ) → length p ≡ t.parameters → HaveSameSolutions t.unknowns t.rows news p)
    c.self.view_is
    (subst (λ (zs : List ℤ). (p : List ℤ) → length p ≡ i.parameters
    → HaveSameSolutions i.unknowns rows (rows_in stride i.count zs) p) (sym a) given)

pub invariant_of-self : goal.invariant_of-self
invariant_of-self c =
    let i = c.self.inside in
    let now = c.pivot_lines.new.cells in
    let room = c.pivot_lines.new.line in
    let size : length now ≡ length i.cells.items = c.pivot_lines.auto.cells
    ∙ ap (λ (zs : List ℤ). length zs) c.deref_mut.ensures.value in
    let same : length room ≡ length i.line.items = c.pivot_lines.auto.line
    ∙ ap (λ (zs : List ℤ). length zs) c.deref_mut-2.ensures.value in
    let a = written_whole i.cells.len i.cells.items now (search rules) size in
    let b = written_whole i.line.len i.line.items room (search rules) same in
    rw (a, b) (sound_stopped i.unknowns i.parameters i.count i.cells.items i.line.items now room i.stopped
    c.in-Err.wide c.self.invariant size same)

pub returns-in-Err-clause-run : goal.returns-in-Err-clause-run
returns-in-Err-clause-run c =
    let i = c.self.inside in
    let stride = stride_of i.unknowns i.parameters in
    let k : length c.deref_mut-2.result.now ≡ stride =
    ap (λ (zs : List ℤ). length zs) c.deref_mut-2.ensures.value ∙ c.self.invariant.room in
    let d : c.deref_mut.result.now ≡ i.cells.items = c.deref_mut.ensures.value in
    let run = rw (k, d) at c.in-Err.ensures in
    let cells = take i.cells.len (c.pivot_lines.new.cells ++ drop (length c.pivot_lines.new.cells) i.cells.items) in
    stops_by (table_in i.unknowns i.parameters i.count i.cells.items i.stopped) c.args.self.now
    (rows_in stride i.count cells) (λ (t : Table). rows_run c.args.row c.args.column (row_at t.rows c.args.row) 0 t.rows)
    c.in-Err.wide c.self.view_is c.in_default.is run
    (length-rows_in stride i.count cells ∙ sym (length-rows_in stride i.count i.cells.items))

pub returns-in-Ok-clause-run : goal.returns-in-Ok-clause-run
returns-in-Ok-clause-run c =
    let i = c.self.inside in
    let stride = stride_of i.unknowns i.parameters in
    let now = c.pivot_lines.new.cells in
    let k : length c.deref_mut-2.result.now ≡ stride =
    ap (λ (zs : List ℤ). length zs) c.deref_mut-2.ensures.value ∙ c.self.invariant.room in
    let d : c.deref_mut.result.now ≡ i.cells.items = c.deref_mut.ensures.value in
    let size : length now ≡ length i.cells.items = c.pivot_lines.auto.cells ∙ ap (λ (zs : List ℤ). length zs) d in
    let a = written_whole i.cells.len i.cells.items now (search rules) size in
    rw a (goes_by (table_in i.unknowns i.parameters i.count i.cells.items i.stopped) c.args.self.now
    (rows_in stride i.count now) (λ (t : Table). rows_run c.args.row c.args.column (row_at t.rows c.args.row) 0 t.rows)
    c.self.view_is c.in_default.is (rw (k, d) at c.in-Ok.ensures))

pub returns-in-Some-clause-run : goal.returns-in-Some-clause-run
returns-in-Some-clause-run c =
    let i = c.self.inside in
    let old = c.args.self.now in
    stays_stopped (table_in i.unknowns i.parameters i.count i.cells.items i.stopped) old
    (rows_run c.args.row c.args.column (row_at old.rows c.args.row) 0 old.rows) c.in-Some.wide c.self.view_is c.in-Some.is
