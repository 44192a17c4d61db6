use Rattle.whole_numbers.proofs.Common.{rules, ◌≡◌, ◌++◌, ◌+◌, ◌<◌, ◌∷◌, [], List, ℤ, length, ap, ap₂, refl, sym, subst}
use Rattle.whole_numbers.proofs.Common.{◌∙◌, arith, None, Ok, Err, Option, ◌*◌, ℕ}
use Rattle.checked_tableau.specs.declared.stop.TableauStop.{TableauStop}
use Rattle.wide_math.specs.declared.Wide.{Wide}
use Rattle.tableau_rows.specs.Rows.{Row, Sized}
use Rattle.tableau_rows.specs.Solutions.{HaveSameSolutions, IsTied}
use Rattle.tableau_rows.proofs.KeptSolutions.{cut_keeps_solutions}
use Rattle.tableau_rows.specs.Moves.{line_row, row_at, rows_in, cut_run}
use Rattle.checked_tableau.specs.Table.{Table, Appends, IsSound, stride_of, table_in, table_of, resumed}
use Rattle.checked_tableau.specs.Lines.{behind_columns}
use Rattle.checked_tableau.proofs.Tables.{length-rows_in, placed-behind, sound_cut, sound_room, sound_stopped}
use Rattle.checked_tableau.proofs.Tables.{stays_stopped, stops_by, written_whole}
use Rattle.checked_tableau.proofs.table.Rows.cut.Goals as goal

pub append_cut-requires-clause-size : goal.append_cut-requires-clause-size
append_cut-requires-clause-size c =
    let i = c.self.inside in
    let k : stride_of i.unknowns i.parameters ≡ length c.deref_mut.result.now =
    sym (ap (λ (zs : List ℤ). length zs) c.deref_mut.ensures.value ∙ c.self.invariant.room) in
    c.self.invariant.size ∙ ap (λ (n : ℕ). i.count * n) k

pub append_cut-requires-clause-constant : goal.append_cut-requires-clause-constant
append_cut-requires-clause-constant c =
    let i = c.self.inside in
    let k : stride_of i.unknowns i.parameters ≡ length c.deref_mut.result.now =
    sym (ap (λ (zs : List ℤ). length zs) c.deref_mut.ensures.value ∙ c.self.invariant.room) in
    omega arith

pub append_cut-requires-clause-row : goal.append_cut-requires-clause-row
append_cut-requires-clause-row c =
    let i = c.self.inside in
    let stride = stride_of i.unknowns i.parameters in
    let l = length-rows_in stride i.count i.cells.items in
    let low : c.args.row < length (rows_in stride i.count i.cells.items) =
    subst (λ (t : Table). c.args.row < length t.rows) (sym c.self.view_is) c.requires.row in
    omega arith

pub append_cut-requires-clause-parameter : goal.append_cut-requires-clause-parameter
append_cut-requires-clause-parameter c k e =
    let i = c.self.inside in
    let room : stride_of i.unknowns i.parameters ≡ length c.deref_mut.result.now =
    sym (ap (λ (zs : List ℤ). length zs) c.deref_mut.ensures.value ∙ c.self.invariant.room) in
    let low = subst (λ (t : Table). k < t.parameters) (sym c.self.view_is) (c.requires.parameter k e) in
    omega arith

pub append_cut-requires-clause-sized : goal.append_cut-requires-clause-sized
append_cut-requires-clause-sized c =
    let i = c.self.inside in
    let k : stride_of i.unknowns i.parameters ≡ length c.deref_mut.result.now =
    sym (ap (λ (zs : List ℤ). length zs) c.deref_mut.ensures.value ∙ c.self.invariant.room) in (
      i.unknowns + 1 + i.parameters,
      subst (λ n. Sized (i.unknowns + 1 + i.parameters) (rows_in n i.count i.cells.items))
          k (c.self.invariant.tableau c.in_default.is).sized,
    )

pub invariant_of-self : goal.invariant_of-self
invariant_of-self c =
    let i = c.self.inside in
    let room : length c.append_cut.new.line ≡ length i.line.items =
    c.append_cut.auto.line ∙ ap (λ (zs : List ℤ). length zs) c.deref_mut.ensures.value in
    let w = written_whole i.line.len i.line.items c.append_cut.new.line (search rules) room in
    let told = subst (λ (e : TableauStop). Appends {U = Unit {0}} (length c.deref_mut.result.now) i.cells.items
    c.append_cut.new.cells.items (Err e)
    (cut_run i.unknowns (behind_columns i.unknowns c.args.parameter)
    (row_at (rows_in (length c.deref_mut.result.now) i.count i.cells.items) c.args.row))) c.in-Err-Wide.field-0-is
    c.in-Err-Wide.ensures in
    let stay : c.append_cut.new.cells.items ≡ i.cells.items = told.1 in
    rw (w, stay) (sound_stopped i.unknowns i.parameters i.count i.cells.items i.line.items i.cells.items
    c.append_cut.new.line i.stopped c.in-Err-Wide.wide c.self.invariant refl room)

-- what the buffer holds
made : (c : goal.After-self-in-Ok-1)
    → (new : List ℤ) × (cut_run c.self.inside.unknowns (behind_columns c.self.inside.unknowns c.args.parameter)
    (row_at (rows_in (stride_of c.self.inside.unknowns c.self.inside.parameters) c.self.inside.count
    c.self.inside.cells.items) c.args.row) ≡ Ok (line_row new))
    × IsSound c.self.inside.unknowns c.self.inside.parameters (c.self.inside.count + 1) c.append_cut.new.cells.items
    c.append_cut.new.line c.self.inside.stopped
    × (rows_in (stride_of c.self.inside.unknowns c.self.inside.parameters) (c.self.inside.count + 1)
    c.append_cut.new.cells.items
    ≡ rows_in (stride_of c.self.inside.unknowns c.self.inside.parameters) c.self.inside.count c.self.inside.cells.items
    ++ line_row new ∷ [])
made c =
    let i = c.self.inside in
    let stride = stride_of i.unknowns i.parameters in
    let k : length c.deref_mut.result.now ≡ stride =
    ap (λ (zs : List ℤ). length zs) c.deref_mut.ensures.value ∙ c.self.invariant.room in
    let l = length-rows_in stride i.count i.cells.items in
    let low : c.args.row < length (rows_in stride i.count i.cells.items) =
    subst (λ (t : Table). c.args.row < length t.rows) (sym c.self.view_is) c.requires.row in
    let room : length c.append_cut.new.line ≡ length i.line.items =
    c.append_cut.auto.line ∙ ap (λ (zs : List ℤ). length zs) c.deref_mut.ensures.value in
    let is = c.in-Ok.ensures in
    let run = subst (λ n. cut_run i.unknowns (behind_columns i.unknowns c.args.parameter)
    (row_at (rows_in n i.count i.cells.items) c.args.row) ≡ Ok (line_row is.0)) k is.3 in
    let both = sound_cut i.unknowns i.parameters i.count c.args.row (behind_columns i.unknowns c.args.parameter)
    i.cells.items i.line.items c.append_cut.new.cells.items is.0 c.append_cut.new.line i.stopped (omega arith)
    c.self.invariant c.in_default.is (is.1 ∙ k) is.2 run room in
    (is.0, run, both.0, both.1)

pub invariant_of-self-in-Ok : goal.invariant_of-self-in-Ok
invariant_of-self-in-Ok c =
    let i = c.self.inside in
    let room : length c.append_cut.new.line ≡ length i.line.items =
    c.append_cut.auto.line ∙ ap (λ (zs : List ℤ). length zs) c.deref_mut.ensures.value in
    let w = written_whole i.line.len i.line.items c.append_cut.new.line (search rules) room in
    rw w (made c).2

pub returns-in-Ok-clause-run : goal.returns-in-Ok-clause-run
returns-in-Ok-clause-run c =
    let i = c.self.inside in
    let m = made c in
    let now = table_of i.unknowns i.parameters
    (rows_in (stride_of i.unknowns i.parameters) (i.count + 1) c.append_cut.new.cells.items) i.stopped in
    let going : i.stopped ≡ None = c.in_default.is in
    let whole : now ≡ table_of i.unknowns i.parameters
    (rows_in (stride_of i.unknowns i.parameters) i.count i.cells.items ++ line_row m.0 ∷ []) None =
    ap₂ (λ (rows : List Row) (stopped : Option Wide). table_of i.unknowns i.parameters rows stopped) m.3 going in
    let run : resumed i.stopped (cut_run i.unknowns (behind_columns i.unknowns c.args.parameter)
    (row_at (rows_in (stride_of i.unknowns i.parameters) i.count i.cells.items) c.args.row)) ≡ Ok (line_row m.0) =
    subst (λ (o : Option Wide). resumed o (cut_run i.unknowns (behind_columns i.unknowns c.args.parameter)
    (row_at (rows_in (stride_of i.unknowns i.parameters) i.count i.cells.items) c.args.row)) ≡ Ok (line_row m.0))
    (sym going) m.1 in (
      line_row m.0,
      subst (λ (t : Table). resumed t.stopped
          (cut_run t.unknowns (behind_columns t.unknowns c.args.parameter) (row_at t.rows c.args.row))
          ≡ Ok (line_row m.0)) c.self.view_is run,
      subst (λ (t : Table). now ≡ table_of t.unknowns t.parameters (t.rows ++ line_row m.0 ∷ []) None) c.self.view_is
          whole,
    )

pub returns-in-Ok-clause-solutions : goal.returns-in-Ok-clause-solutions
returns-in-Ok-clause-solutions c =
    let i = c.self.inside in
    let stride = stride_of i.unknowns i.parameters in
    let rows = rows_in stride i.count i.cells.items in
    let news = rows_in stride (i.count + 1) c.append_cut.new.cells.items in
    let m = made c in
    let low : c.args.row < length rows = subst (λ (t : Table). c.args.row < length t.rows) (sym c.self.view_is)
    c.requires.row in
    let given : (p : List ℤ) → length p ≡ i.parameters
    → IsTied i.unknowns (behind_columns i.unknowns c.args.parameter) (row_at rows c.args.row) p
    → HaveSameSolutions i.unknowns rows news p =
    λ p size tied.
    subst (λ (rs : List Row). HaveSameSolutions i.unknowns rows rs p) (sym m.3)
    (cut_keeps_solutions i.unknowns i.parameters c.args.row (behind_columns i.unknowns c.args.parameter) rows
    (line_row m.0) (c.self.invariant.tableau c.in_default.is) low
    (placed-behind i.unknowns i.parameters c.args.parameter
    (λ k e. subst (λ (t : Table). k < t.parameters) (sym c.self.view_is) (c.requires.parameter k e))) m.1 p size
    tied) in
    subst (λ (t : Table). (p : List ℤ) → length p ≡ t.parameters
    → IsTied t.unknowns (behind_columns t.unknowns c.args.parameter) (row_at t.rows c.args.row) p
    → HaveSameSolutions t.unknowns t.rows news p)
    c.self.view_is given

pub invariant_of-self-in-Err-NoMemory : goal.invariant_of-self-in-Err-NoMemory
invariant_of-self-in-Err-NoMemory c =
    let i = c.self.inside in
    let room : length c.append_cut.new.line ≡ length i.line.items =
    c.append_cut.auto.line ∙ ap (λ (zs : List ℤ). length zs) c.deref_mut.ensures.value in
    let w = written_whole i.line.len i.line.items c.append_cut.new.line (search rules) room in
    let stay : c.append_cut.new.cells.items ≡ i.cells.items =
    subst (λ (e : TableauStop). Appends {U = Unit {0}} (length c.deref_mut.result.now) i.cells.items
    c.append_cut.new.cells.items (Err e)
    (cut_run i.unknowns (behind_columns i.unknowns c.args.parameter)
    (row_at (rows_in (length c.deref_mut.result.now) i.count i.cells.items) c.args.row))) c.in-Err-NoMemory.field-0-is
    c.in-Err-NoMemory.ensures in
    rw (w, stay) (sound_room i.unknowns i.parameters i.count i.cells.items i.line.items c.append_cut.new.line
    i.stopped c.self.invariant room)

pub returns-in-Err-NoMemory-clause-run : goal.returns-in-Err-NoMemory-clause-run
returns-in-Err-NoMemory-clause-run c =
    let i = c.self.inside in
    let stay : c.append_cut.new.cells.items ≡ i.cells.items =
    subst (λ (e : TableauStop). Appends {U = Unit {0}} (length c.deref_mut.result.now) i.cells.items
    c.append_cut.new.cells.items (Err e)
    (cut_run i.unknowns (behind_columns i.unknowns c.args.parameter)
    (row_at (rows_in (length c.deref_mut.result.now) i.count i.cells.items) c.args.row))) c.in-Err-NoMemory.field-0-is
    c.in-Err-NoMemory.ensures in
    ap (λ (zs : List ℤ). table_in i.unknowns i.parameters i.count zs i.stopped) stay ∙ c.self.view_is

pub returns-in-Err-Wide-clause-run : goal.returns-in-Err-Wide-clause-run
returns-in-Err-Wide-clause-run c =
    let i = c.self.inside in
    let stride = stride_of i.unknowns i.parameters in
    let k : length c.deref_mut.result.now ≡ stride =
    ap (λ (zs : List ℤ). length zs) c.deref_mut.ensures.value ∙ c.self.invariant.room in
    let told = subst (λ (e : TableauStop). Appends {U = Unit {0}} (length c.deref_mut.result.now) i.cells.items
    c.append_cut.new.cells.items (Err e)
    (cut_run i.unknowns (behind_columns i.unknowns c.args.parameter)
    (row_at (rows_in (length c.deref_mut.result.now) i.count i.cells.items) c.args.row))) c.in-Err-Wide.field-0-is
    c.in-Err-Wide.ensures in
    stops_by (table_in i.unknowns i.parameters i.count i.cells.items i.stopped) c.args.self.now
    (rows_in stride i.count c.append_cut.new.cells.items)
    (λ (t : Table). cut_run t.unknowns (behind_columns t.unknowns c.args.parameter) (row_at t.rows c.args.row))
    c.in-Err-Wide.wide c.self.view_is c.in_default.is (rw k at told.0)
    (length-rows_in stride i.count c.append_cut.new.cells.items ∙ sym (length-rows_in stride i.count i.cells.items))

pub returns-in-Some-clause-run : goal.returns-in-Some-clause-run
returns-in-Some-clause-run c =
    let i = c.self.inside in
    let old = c.args.self.now in
    stays_stopped (table_in i.unknowns i.parameters i.count i.cells.items i.stopped) old
    (cut_run old.unknowns (behind_columns old.unknowns c.args.parameter) (row_at old.rows c.args.row)) c.in-Some.wide
    c.self.view_is c.in-Some.is
