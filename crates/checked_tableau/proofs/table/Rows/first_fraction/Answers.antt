use Rattle.whole_numbers.proofs.Common.{rules, arith, length, ◌≡◌, ◌+◌, ◌*◌, ◌<◌, ℕ, ℤ, List, take, ap, ◌∙◌, subst, sym}
use Rattle.whole_numbers.proofs.Common.{None}
use Rattle.tableau_rows.specs.Rows.{Row, Sized}
use Rattle.tableau_rows.specs.Moves.{rows_in, HeadsPositive}
use Rattle.tableau_rows.specs.Run.{first_row, has_fraction}
use Rattle.tableau_rows.proofs.Points.{sized_take}
use Rattle.checked_tableau.specs.Table.{Table, stride_of}
use Rattle.checked_tableau.proofs.RowScans.{first_inside}
use Rattle.checked_tableau.proofs.Tables.{heads_sized, length-rows_in, take_rows_in}
use Rattle.checked_tableau.proofs.Tables.{lines_within}
use Rattle.checked_tableau.proofs.table.Rows.first_fraction.Goals as goal

pub overflow_mul-unknowns : goal.overflow_mul-unknowns
overflow_mul-unknowns c =
    let i = c.self.inside in
    let k : c.len-stride.result ≡ stride_of i.unknowns i.parameters = search rules in
    let size : length i.cells.items ≡ i.count * c.len-stride.result = c.self.invariant.size
    ∙ ap (λ (n : ℕ). i.count * n) (sym k) in
    let l = lines_within i.unknowns i.count c.len-stride.result (length i.cells.items) c.self.invariant.many size in
    omega arith

pub first_fraction-requires-clause-positive : goal.first_fraction-requires-clause-positive
first_fraction-requires-clause-positive c =
    let i = c.self.inside in
    let inv = c.self.invariant in
    let stride = stride_of i.unknowns i.parameters in
    let e : i.stopped ≡ None = search rules in
    let m = i.unknowns + 1 + i.parameters in
    let sized = sized_take i.unknowns m (rows_in stride i.count i.cells.items) (inv.tableau e).sized in
    let fewer = subst (Sized m) (take_rows_in stride i.unknowns i.count i.cells.items inv.many inv.size) sized in
    let heads = heads_sized stride m i.unknowns (take (i.unknowns * stride) i.cells.items) (omega arith) fewer in
    let k : stride ≡ c.len-stride.result = search rules in
    let d : i.cells.items ≡ c.deref.result.now = sym c.deref.ensures.value in
    subst (λ (zs : List ℤ). HeadsPositive c.len-stride.result i.unknowns (take (i.unknowns * c.len-stride.result) zs)) d
    (subst (λ (n : ℕ). HeadsPositive n i.unknowns (take (i.unknowns * n) i.cells.items)) k heads)

pub returns-clause-first : goal.returns-clause-first
returns-clause-first c =
    let i = c.self.inside in
    let inv = c.self.invariant in
    let stride = stride_of i.unknowns i.parameters in
    let k : c.len-stride.result ≡ stride = search rules in
    let d : c.deref.result.now ≡ i.cells.items = c.deref.ensures.value in
    let given = rw (d, k) at c.first_fraction.ensures in
    let whole = given ∙ ap (λ (rows : List Row). first_row (has_fraction i.unknowns) 0 rows)
    (sym (take_rows_in stride i.unknowns i.count i.cells.items inv.many inv.size)) in
    subst (λ (t : Table). c.first_fraction.result ≡ first_row (has_fraction t.unknowns) 0 (take t.unknowns t.rows))
    c.self.view_is whole

pub returns-clause-inside : goal.returns-clause-inside
returns-clause-inside c r h =
    let i = c.self.inside in
    let few = take (i.unknowns * c.len-stride.result) c.deref.result.now in
    let l = length-rows_in c.len-stride.result i.unknowns few in
    let k = length-rows_in (stride_of i.unknowns i.parameters) i.count i.cells.items in
    let m = c.self.invariant.many in
    let below = first_inside (has_fraction i.unknowns) 0 (rows_in c.len-stride.result i.unknowns few) r
    (sym c.first_fraction.ensures ∙ h) in
    subst (λ (t : Table). r < length t.rows) c.self.view_is (omega arith)
